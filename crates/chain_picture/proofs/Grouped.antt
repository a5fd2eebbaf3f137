-- Pieces that are appended one behind another, as the elements that they are.
use Rattle.std.proofs.Common.{◌≡◌, ℕ, List, [], ◌++◌, append_assoc}
use Rattle.std.specs.Prelude.{codes}
use Rattle.std.proofs.lemmas.List.{append-nil}

colour_any : (t x0 x1 x2 x3 x4 x5 : List ℕ) → (((((t ++ x0) ++ x1) ++ x2) ++ x3) ++ x4) ++ x5 ≡ t ++ (x0 ++ x1 ++ x2 ++ (x3 ++ x4) ++ x5)
colour_any t x0 x1 x2 x3 x4 x5 = simp append_assoc

pub colour_is : (t n d : List ℕ) → (((((t ++ codes " ") ++ n) ++ codes "=\"") ++ codes "#") ++ d) ++ codes "\"" ≡ t ++ (codes " " ++ n ++ codes "=\"" ++ (codes "#" ++ d) ++ codes "\"")
colour_is t n d = colour_any t (codes " ") n (codes "=\"") (codes "#") d (codes "\"")

box_any : (t x0 x1 x2 x3 x4 x5 x6 x7 x8 : List ℕ) → ((((((((t ++ x0) ++ x1) ++ x2) ++ x3) ++ x4) ++ x5) ++ x6) ++ x7) ++ x8 ≡ t ++ (x0 ++ x1 ++ x2 ++ x3 ++ x4 ++ x5 ++ x6 ++ x7 ++ x8 ++ [])
box_any t x0 x1 x2 x3 x4 x5 x6 x7 x8 = simp (append_assoc, append-nil)

pub box_is : (t p x y z : List ℕ) → ((((((((t ++ codes "M") ++ p) ++ codes "H") ++ x) ++ codes "V") ++ y) ++ codes "H") ++ z) ++ codes "z" ≡ t ++ (codes "M" ++ p ++ codes "H" ++ x ++ codes "V" ++ y ++ codes "H" ++ z ++ codes "z" ++ [])
box_is t p x y z = box_any t (codes "M") p (codes "H") x (codes "V") y (codes "H") z (codes "z")

stroke_any : (t x0 x1 x2 x3 : List ℕ) → (((t ++ x0) ++ x1) ++ x2) ++ x3 ≡ t ++ (x0 ++ x1 ++ x2 ++ x3 ++ [])
stroke_any t x0 x1 x2 x3 = simp (append_assoc, append-nil)

pub stroke_is : (t p q : List ℕ) → (((t ++ codes "M") ++ p) ++ codes "L") ++ q ≡ t ++ (codes "M" ++ p ++ codes "L" ++ q ++ [])
stroke_is t p q = stroke_any t (codes "M") p (codes "L") q

cells_any : (t x0 x1 x2 x3 x4 x5 x6 x7 x8 : List ℕ) → ((((t ++ (x0 ++ x1)) ++ x2) ++ (x3 ++ x4 ++ x5)) ++ x6) ++ (x7 ++ x8) ≡ t ++ ((x0 ++ x1 ++ (x2 ++ (x3 ++ x4 ++ x5 ++ x6 ++ x7)) ++ x8) ++ [])
cells_any t x0 x1 x2 x3 x4 x5 x6 x7 x8 = simp (append_assoc, append-nil)

pub cells_is : (t f b : List ℕ) → ((((t ++ codes "<path") ++ f) ++ codes " d=\"") ++ b) ++ codes "\"/>\n" ≡ t ++ ((codes "<" ++ codes "path" ++ (f ++ (codes " " ++ codes "d" ++ codes "=\"" ++ b ++ codes "\"")) ++ codes "/>\n") ++ [])
cells_is t f b = cells_any t (codes "<") (codes "path") f (codes " ") (codes "d") (codes "=\"") b (codes "\"") (codes "/>\n")

chain_any : (t x0 x1 x2 x3 x4 x5 x6 x7 x8 x9 x10 x11 x12 x13 x14 x15 x16 x17 : List ℕ) → ((((((((t ++ (x0 ++ x1)) ++ x2) ++ (x3 ++ x4 ++ x5 ++ x6)) ++ x7) ++ (x8 ++ x9 ++ x10)) ++ x11) ++ (x12 ++ x13)) ++ x14) ++ (x15 ++ x16 ++ x17) ≡ t ++ ((x0 ++ x1 ++ x2 ++ x3 ++ (x4 ++ ((x5 ++ x6 ++ (x7 ++ (x8 ++ x9 ++ x10 ++ x11 ++ x12)) ++ x13) ++ x14)) ++ x15 ++ x16 ++ x17) ++ [])
chain_any t x0 x1 x2 x3 x4 x5 x6 x7 x8 x9 x10 x11 x12 x13 x14 x15 x16 x17 = simp (append_assoc, append-nil)

pub chain_is : (t f w s l : List ℕ) → ((((((((t ++ codes "<g") ++ f) ++ codes ">\n<path") ++ w) ++ codes " d=\"") ++ s) ++ codes "\"/>\n") ++ l) ++ codes "</g>\n" ≡ t ++ ((codes "<" ++ codes "g" ++ f ++ codes ">" ++ (codes "\n" ++ ((codes "<" ++ codes "path" ++ (w ++ (codes " " ++ codes "d" ++ codes "=\"" ++ s ++ codes "\"")) ++ codes "/>\n") ++ l)) ++ codes "</" ++ codes "g" ++ codes ">\n") ++ [])
chain_is t f w s l = chain_any t (codes "<") (codes "g") f (codes ">") (codes "\n") (codes "<") (codes "path") w (codes " ") (codes "d") (codes "=\"") s (codes "\"") (codes "/>\n") l (codes "</") (codes "g") (codes ">\n")

drawing_any : (t x0 x1 x2 x3 x4 x5 x6 x7 x8 x9 x10 x11 x12 x13 x14 x15 x16 x17 x18 x19 x20 x21 x22 x23 x24 x25 x26 x27 x28 x29 x30 x31 x32 x33 x34 x35 x36 x37 x38 x39 x40 x41 x42 x43 x44 x45 x46 x47 : List ℕ) → ((((((((((((t ++ (x0 ++ x1 ++ x2 ++ x3 ++ x4)) ++ x5) ++ (x6 ++ x7 ++ x8 ++ x9 ++ x10 ++ x11 ++ x12 ++ x13 ++ x14 ++ x15 ++ x16 ++ x17)) ++ x18) ++ (x19 ++ x20 ++ x21 ++ x22 ++ x23)) ++ x24) ++ (x25 ++ x26 ++ x27 ++ x28 ++ x29 ++ x30 ++ x31)) ++ x32) ++ (x33 ++ x34 ++ x35 ++ x36 ++ x37)) ++ x38) ++ (x39 ++ x40)) ++ x41) ++ (x42 ++ x43 ++ x44 ++ x45 ++ x46 ++ x47) ≡ t ++ (x0 ++ x1 ++ (x2 ++ x3 ++ x4 ++ x5 ++ x6) ++ x7 ++ (x8 ++ ((x9 ++ x10 ++ (x11 ++ x12 ++ x13 ++ x14 ++ x15) ++ x16 ++ (x17 ++ x18) ++ x19 ++ x20 ++ x21) ++ (x22 ++ x23 ++ (x24 ++ (x25 ++ x26 ++ x27 ++ x28 ++ x29)) ++ x30 ++ (x31 ++ x32) ++ x33 ++ x34 ++ x35) ++ (x36 ++ x37 ++ x38 ++ x39 ++ (x40 ++ x41) ++ x42 ++ x43 ++ x44))) ++ x45 ++ x46 ++ x47)
drawing_any t x0 x1 x2 x3 x4 x5 x6 x7 x8 x9 x10 x11 x12 x13 x14 x15 x16 x17 x18 x19 x20 x21 x22 x23 x24 x25 x26 x27 x28 x29 x30 x31 x32 x33 x34 x35 x36 x37 x38 x39 x40 x41 x42 x43 x44 x45 x46 x47 = simp append_assoc

pub drawing_is : (t m f w l v k : List ℕ) → ((((((((((((t ++ codes "<g transform=\"") ++ m) ++ codes "\">\n<g fill-opacity=\".25\">\n") ++ f) ++ codes "</g>\n<g") ++ w) ++ codes " stroke-linecap=\"round\">\n") ++ l) ++ codes "</g>\n<g") ++ v) ++ codes ">\n") ++ k) ++ codes "</g>\n</g>\n" ≡ t ++ (codes "<" ++ codes "g" ++ (codes " " ++ codes "transform" ++ codes "=\"" ++ m ++ codes "\"") ++ codes ">" ++ (codes "\n" ++ ((codes "<" ++ codes "g" ++ (codes " " ++ codes "fill-opacity" ++ codes "=\"" ++ codes ".25" ++ codes "\"") ++ codes ">" ++ (codes "\n" ++ f) ++ codes "</" ++ codes "g" ++ codes ">\n") ++ (codes "<" ++ codes "g" ++ (w ++ (codes " " ++ codes "stroke-linecap" ++ codes "=\"" ++ codes "round" ++ codes "\"")) ++ codes ">" ++ (codes "\n" ++ l) ++ codes "</" ++ codes "g" ++ codes ">\n") ++ (codes "<" ++ codes "g" ++ v ++ codes ">" ++ (codes "\n" ++ k) ++ codes "</" ++ codes "g" ++ codes ">\n"))) ++ codes "</" ++ codes "g" ++ codes ">\n")
drawing_is t m f w l v k = drawing_any t (codes "<") (codes "g") (codes " ") (codes "transform") (codes "=\"") m (codes "\"") (codes ">") (codes "\n") (codes "<") (codes "g") (codes " ") (codes "fill-opacity") (codes "=\"") (codes ".25") (codes "\"") (codes ">") (codes "\n") f (codes "</") (codes "g") (codes ">\n") (codes "<") (codes "g") w (codes " ") (codes "stroke-linecap") (codes "=\"") (codes "round") (codes "\"") (codes ">") (codes "\n") l (codes "</") (codes "g") (codes ">\n") (codes "<") (codes "g") v (codes ">") (codes "\n") k (codes "</") (codes "g") (codes ">\n") (codes "</") (codes "g") (codes ">\n")

scale_any : (t x0 x1 x2 x3 x4 x5 x6 x7 x8 x9 x10 x11 x12 x13 x14 x15 x16 x17 x18 x19 x20 x21 x22 : List ℕ) → ((((((t ++ (x0 ++ x1 ++ x2 ++ x3 ++ x4 ++ x5 ++ x6 ++ x7 ++ x8 ++ x9 ++ x10 ++ x11)) ++ x12) ++ (x13 ++ x14 ++ x15 ++ x16)) ++ x17) ++ x18) ++ x19) ++ (x20 ++ x21 ++ x22) ≡ t ++ (x0 ++ x1 ++ ((x2 ++ x3 ++ x4 ++ x5 ++ x6) ++ (x7 ++ x8 ++ x9 ++ x10 ++ x11) ++ x12 ++ (x13 ++ x14 ++ x15 ++ (x16 ++ x17 ++ x18 ++ x19 ++ x20) ++ x21)) ++ x22)
scale_any t x0 x1 x2 x3 x4 x5 x6 x7 x8 x9 x10 x11 x12 x13 x14 x15 x16 x17 x18 x19 x20 x21 x22 = simp append_assoc

pub scale_is : (t w a b : List ℕ) → ((((((t ++ codes "<path fill=\"none\" stroke=\"#222\"") ++ w) ++ codes " d=\"M0 0V") ++ a) ++ codes "H") ++ b) ++ codes "V0\"/>\n" ≡ t ++ (codes "<" ++ codes "path" ++ ((codes " " ++ codes "fill" ++ codes "=\"" ++ codes "none" ++ codes "\"") ++ (codes " " ++ codes "stroke" ++ codes "=\"" ++ codes "#222" ++ codes "\"") ++ w ++ (codes " " ++ codes "d" ++ codes "=\"" ++ (codes "M0 0V" ++ a ++ codes "H" ++ b ++ codes "V0") ++ codes "\"")) ++ codes "/>\n")
scale_is t w a b = scale_any t (codes "<") (codes "path") (codes " ") (codes "fill") (codes "=\"") (codes "none") (codes "\"") (codes " ") (codes "stroke") (codes "=\"") (codes "#222") (codes "\"") w (codes " ") (codes "d") (codes "=\"") (codes "M0 0V") a (codes "H") b (codes "V0") (codes "\"") (codes "/>\n")

table_any : (t x0 x1 x2 x3 x4 x5 x6 x7 x8 x9 x10 x11 x12 x13 x14 x15 x16 x17 x18 x19 x20 x21 x22 x23 x24 x25 x26 x27 x28 x29 : List ℕ) → ((((t ++ (x0 ++ x1 ++ x2 ++ x3 ++ x4 ++ x5)) ++ x6) ++ (x7 ++ x8 ++ x9 ++ x10 ++ x11 ++ x12 ++ x13 ++ x14 ++ x15 ++ x16 ++ x17 ++ x18 ++ x19 ++ x20 ++ x21 ++ x22 ++ x23 ++ x24 ++ x25)) ++ x26) ++ (x27 ++ x28 ++ x29) ≡ t ++ (x0 ++ x1 ++ ((x2 ++ x3 ++ x4 ++ (x5 ++ x6 ++ x7) ++ x8) ++ (x9 ++ x10 ++ x11 ++ x12 ++ x13) ++ (x14 ++ x15 ++ x16 ++ x17 ++ x18) ++ (x19 ++ x20 ++ x21 ++ x22 ++ x23)) ++ x24 ++ (x25 ++ x26) ++ x27 ++ x28 ++ x29)
table_any t x0 x1 x2 x3 x4 x5 x6 x7 x8 x9 x10 x11 x12 x13 x14 x15 x16 x17 x18 x19 x20 x21 x22 x23 x24 x25 x26 x27 x28 x29 = simp append_assoc

pub table_is : (t l r : List ℕ) → ((((t ++ codes "<g transform=\"scale(") ++ l) ++ codes ")\" font-family=\"monospace\" font-size=\"10\" fill=\"#222\">\n") ++ r) ++ codes "</g>\n" ≡ t ++ (codes "<" ++ codes "g" ++ ((codes " " ++ codes "transform" ++ codes "=\"" ++ (codes "scale(" ++ l ++ codes ")") ++ codes "\"") ++ (codes " " ++ codes "font-family" ++ codes "=\"" ++ codes "monospace" ++ codes "\"") ++ (codes " " ++ codes "font-size" ++ codes "=\"" ++ codes "10" ++ codes "\"") ++ (codes " " ++ codes "fill" ++ codes "=\"" ++ codes "#222" ++ codes "\"")) ++ codes ">" ++ (codes "\n" ++ r) ++ codes "</" ++ codes "g" ++ codes ">\n")
table_is t l r = table_any t (codes "<") (codes "g") (codes " ") (codes "transform") (codes "=\"") (codes "scale(") l (codes ")") (codes "\"") (codes " ") (codes "font-family") (codes "=\"") (codes "monospace") (codes "\"") (codes " ") (codes "font-size") (codes "=\"") (codes "10") (codes "\"") (codes " ") (codes "fill") (codes "=\"") (codes "#222") (codes "\"") (codes ">") (codes "\n") r (codes "</") (codes "g") (codes ">\n")

legend_any : (t x0 x1 x2 x3 x4 x5 x6 x7 x8 x9 x10 x11 x12 x13 x14 x15 x16 x17 : List ℕ) → (((((((t ++ (x0 ++ x1 ++ x2 ++ x3 ++ x4 ++ x5)) ++ x6) ++ x7) ++ x8) ++ (x9 ++ x10 ++ x11 ++ x12)) ++ x13) ++ x14) ++ (x15 ++ x16 ++ x17) ≡ t ++ (x0 ++ x1 ++ (x2 ++ x3 ++ x4 ++ (x5 ++ x6 ++ x7 ++ x8 ++ x9) ++ x10) ++ x11 ++ (x12 ++ (x13 ++ x14)) ++ x15 ++ x16 ++ x17)
legend_any t x0 x1 x2 x3 x4 x5 x6 x7 x8 x9 x10 x11 x12 x13 x14 x15 x16 x17 = simp append_assoc

pub legend_is : (t a m s r : List ℕ) → (((((((t ++ codes "<g transform=\"translate(") ++ a) ++ codes " ") ++ m) ++ codes ")\">\n") ++ s) ++ r) ++ codes "</g>\n" ≡ t ++ (codes "<" ++ codes "g" ++ (codes " " ++ codes "transform" ++ codes "=\"" ++ (codes "translate(" ++ a ++ codes " " ++ m ++ codes ")") ++ codes "\"") ++ codes ">" ++ (codes "\n" ++ (s ++ r)) ++ codes "</" ++ codes "g" ++ codes ">\n")
legend_is t a m s r = legend_any t (codes "<") (codes "g") (codes " ") (codes "transform") (codes "=\"") (codes "translate(") a (codes " ") m (codes ")") (codes "\"") (codes ">") (codes "\n") s r (codes "</") (codes "g") (codes ">\n")

svg_any : (t x0 x1 x2 x3 x4 x5 x6 x7 x8 x9 x10 x11 x12 x13 x14 x15 x16 x17 x18 x19 x20 x21 x22 x23 x24 x25 x26 x27 x28 x29 x30 x31 x32 x33 x34 x35 x36 : List ℕ) → (((((t ++ (x0 ++ x1 ++ x2 ++ x3 ++ x4 ++ x5 ++ x6 ++ x7 ++ x8 ++ x9)) ++ x10) ++ (x11 ++ x12 ++ x13 ++ x14 ++ x15 ++ x16 ++ x17 ++ x18 ++ x19 ++ x20 ++ x21 ++ x22 ++ x23 ++ x24 ++ x25 ++ x26 ++ x27 ++ x28 ++ x29 ++ x30 ++ x31)) ++ x32) ++ x33) ++ (x34 ++ x35 ++ x36) ≡ t ++ (x0 ++ x1 ++ ((x2 ++ x3 ++ x4 ++ x5 ++ x6) ++ (x7 ++ x8 ++ x9 ++ x10 ++ x11)) ++ x12 ++ (x13 ++ (x14 ++ x15 ++ ((x16 ++ x17 ++ x18 ++ x19 ++ x20) ++ (x21 ++ x22 ++ x23 ++ x24 ++ x25) ++ (x26 ++ x27 ++ x28 ++ x29 ++ x30)) ++ x31) ++ x32 ++ x33) ++ x34 ++ x35 ++ x36)
svg_any t x0 x1 x2 x3 x4 x5 x6 x7 x8 x9 x10 x11 x12 x13 x14 x15 x16 x17 x18 x19 x20 x21 x22 x23 x24 x25 x26 x27 x28 x29 x30 x31 x32 x33 x34 x35 x36 = simp append_assoc

pub svg_is : (t v d l : List ℕ) → (((((t ++ codes "<svg xmlns=\"http://www.w3.org/2000/svg\" viewBox=\"") ++ v) ++ codes "\">\n<rect width=\"100%\" height=\"100%\" fill=\"#fff\"/>\n") ++ d) ++ l) ++ codes "</svg>\n" ≡ t ++ (codes "<" ++ codes "svg" ++ ((codes " " ++ codes "xmlns" ++ codes "=\"" ++ codes "http://www.w3.org/2000/svg" ++ codes "\"") ++ (codes " " ++ codes "viewBox" ++ codes "=\"" ++ v ++ codes "\"")) ++ codes ">" ++ (codes "\n" ++ (codes "<" ++ codes "rect" ++ ((codes " " ++ codes "width" ++ codes "=\"" ++ codes "100%" ++ codes "\"") ++ (codes " " ++ codes "height" ++ codes "=\"" ++ codes "100%" ++ codes "\"") ++ (codes " " ++ codes "fill" ++ codes "=\"" ++ codes "#fff" ++ codes "\"")) ++ codes "/>\n") ++ d ++ l) ++ codes "</" ++ codes "svg" ++ codes ">\n")
svg_is t v d l = svg_any t (codes "<") (codes "svg") (codes " ") (codes "xmlns") (codes "=\"") (codes "http://www.w3.org/2000/svg") (codes "\"") (codes " ") (codes "viewBox") (codes "=\"") v (codes "\"") (codes ">") (codes "\n") (codes "<") (codes "rect") (codes " ") (codes "width") (codes "=\"") (codes "100%") (codes "\"") (codes " ") (codes "height") (codes "=\"") (codes "100%") (codes "\"") (codes " ") (codes "fill") (codes "=\"") (codes "#fff") (codes "\"") (codes "/>\n") d l (codes "</") (codes "svg") (codes ">\n")
