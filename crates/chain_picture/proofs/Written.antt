-- The text of a picture: all its bytes are plain, and as many `<line` stand in it as links are drawn.
use Rattle.std.proofs.Common.{◌≡◌, ℕ, ◌+◌, ◌*◌, ◌%◌, List, [], ◌∷◌, length, refl, ap, sym, ◌∙◌, arith, true, append-nil}
use Rattle.std.specs.Prelude.{codes, All, Option, Some, None}
use Rattle.std.proofs.lemmas.List.Sums.{sum_by-cons}
use Rattle.base_types.specs.declared.span.Point.{Point}
use Rattle.chain_picture.specs.declared.chain.Segment.{Segment}
use Rattle.chain_picture.specs.declared.chain.DrawnChain.{DrawnChain}
use Rattle.chain_picture.specs.declared.sheet.Sheet.{Sheet}
use Rattle.chain_picture.specs.declared.totals.Totals.{Totals}
use Rattle.chain_picture.specs.Sizes.{sheet_of}
use Rattle.chain_picture.specs.Xml.{IsPlainByte, attribute, count_of, place}
use Rattle.chain_picture.specs.Pictures.{boxes, cells_from, colour, colours, dashes, drawing, foot, group, heads, keys, label, legend, link, link_count, links, links_from, mark_at, marks_from, nowhere, numbers, point, ring, rows, rows_from, scale, square, square_data, strokes, svg_by, svg_of, swatch, table, totals_of, transform, view, word_at, word_until}
use Rattle.chain_picture.proofs.Says.{Quiet, Says, Tag, ◌⊕◌, ◌⊞◌, are_quiet, all_plain, attribute_says, element_loud, element_says, empty, escaped_says, leaf_says, loud, number, place_says, quiet, quiet_part, same, signed, size_says}

g_tag : Tag (codes "g")
g_tag = record { opens = record { plain = refl; count = λ ys. refl }; is_quiet = refl }

path_tag : Tag (codes "path")
path_tag = record { opens = record { plain = refl; count = λ ys. refl }; is_quiet = refl }

circle_tag : Tag (codes "circle")
circle_tag = record { opens = record { plain = refl; count = λ ys. refl }; is_quiet = refl }

rect_tag : Tag (codes "rect")
rect_tag = record { opens = record { plain = refl; count = λ ys. refl }; is_quiet = refl }

text_tag : Tag (codes "text")
text_tag = record { opens = record { plain = refl; count = λ ys. refl }; is_quiet = refl }

svg_tag : Tag (codes "svg")
svg_tag = record { opens = record { plain = refl; count = λ ys. refl }; is_quiet = refl }

-- an attribute whose value is a word
word_says : (name value : List ℕ) → are_quiet name ≡ true → are_quiet value ≡ true → Quiet (attribute name value)
word_says name value e f = attribute_says name e (quiet value f)

group_says : {attributes content : List ℕ} → Quiet attributes → Quiet content → Quiet (group attributes content)
group_says h k = element_says g_tag h (quiet (codes "\n") refl ⊕ k)

group_loud : {n : ℕ} {attributes content : List ℕ} → Quiet attributes → Says n content → Says n (group attributes content)
group_loud {n} h k = element_loud g_tag h (same (loud (quiet (codes "\n") refl) ⊞ k) (omega arith))

colours_quiet : are_quiet colours ≡ true
unfolding colours
colours_quiet = refl

colour_says : (c : ℕ) → Quiet (colour c)
unfolding colour
colour_says c = quiet (codes "#") refl ⊕ quiet_part 6 (6 * (c % 14)) colours colours_quiet

point_says : (p : Point) → Quiet (point p)
unfolding point
point_says p = signed p.x ⊕ quiet (codes " ") refl ⊕ signed p.y

boxes_say : (ss : List Segment) → Quiet (boxes ss)
unfolding boxes
boxes_say [] = empty
boxes_say (s ∷ ss) =
    quiet (codes "M") refl ⊕ point_says s.from ⊕ quiet (codes "H") refl ⊕ signed s.to.x ⊕ quiet (codes "V") refl ⊕ signed s.to.y ⊕ quiet (codes "H") refl ⊕ signed s.from.x ⊕ quiet (codes "z") refl ⊕ boxes_say ss

strokes_say : (ss : List Segment) → Quiet (strokes ss)
unfolding strokes
strokes_say [] = empty
strokes_say (s ∷ ss) = quiet (codes "M") refl ⊕ point_says s.from ⊕ quiet (codes "L") refl ⊕ point_says s.to ⊕ strokes_say ss

-- the one piece in which a link begins
opening : Says 1 (codes "<line x1=\"")
opening = record { plain = refl; count = λ ys. refl }

link_says : (s : Segment) → Says 1 (link s)
unfolding link place attribute
link_says s =
    opening ⊞ loud (signed s.from.x ⊕ quiet (codes "\"") refl ⊕ place_says (codes "y1") s.from.y refl ⊕ place_says (codes "x2") s.to.x refl ⊕ place_says (codes "y2") s.to.y refl ⊕ quiet (codes "/>\n") refl)

links_say : (ss : List Segment) → Says (length ss) (links ss)
unfolding links
links_say [] = loud empty
links_say (s ∷ ss) = same (link_says s ⊞ links_say ss) (omega arith)

ring_says : (r : ℕ) (p : Option Point) → Quiet (ring r p)
unfolding ring
ring_says r None = empty
ring_says r (Some p) =
    leaf_says circle_tag (place_says (codes "cx") p.x refl ⊕ place_says (codes "cy") p.y refl ⊕ size_says (codes "r") r refl ⊕ word_says (codes "fill") (codes "#fff") refl refl)

square_data_says : (r : ℕ) (p : Point) → Quiet (square_data r p)
unfolding square_data
square_data_says r p =
    quiet (codes "M") refl ⊕ point_says p ⊕ quiet (codes "m-") refl ⊕ number r ⊕ quiet (codes " -") refl ⊕ number r ⊕ quiet (codes "h") refl ⊕ number (2 * r) ⊕ quiet (codes "v") refl ⊕ number (2 * r) ⊕ quiet (codes "h-") refl ⊕ number (2 * r) ⊕ quiet (codes "z") refl

square_says : (r : ℕ) (p : Option Point) → Quiet (square r p)
unfolding square
square_says r None = empty
square_says r (Some p) = leaf_says path_tag (attribute_says (codes "d") refl (square_data_says r p))

filled : (name : List ℕ) (c : ℕ) → are_quiet name ≡ true → Quiet (attribute name (colour c))
filled name c e = attribute_says name e (colour_says c)

cells_say : (c : ℕ) (chains : List DrawnChain) → Quiet (cells_from c chains)
unfolding cells_from
cells_say c [] = empty
cells_say c (chain ∷ chains) = leaf_says path_tag (filled (codes "fill") c refl ⊕ attribute_says (codes "d") refl (boxes_say chain.cells)) ⊕ cells_say (c + 1) chains

links_from_say : (dash c : ℕ) (chains : List DrawnChain) → Says (link_count chains) (links_from dash c chains)
unfolding links_from
links_from_say dash c [] = loud empty
links_from_say dash c (chain ∷ chains) =
    let spans = leaf_says path_tag (size_says (codes "stroke-dasharray") dash refl ⊕ attribute_says (codes "d") refl (strokes_say chain.spans)) in
    let more : link_count (chain ∷ chains) ≡ length chain.links + link_count chains = sum_by-cons (λ (c : DrawnChain). length c.links) chain chains in
    same (group_loud (filled (codes "stroke") c refl) (loud spans ⊞ links_say chain.links) ⊞ links_from_say dash (c + 1) chains) (omega (arith, more))

marks_say : (r c : ℕ) (chains : List DrawnChain) → Quiet (marks_from r c chains)
unfolding marks_from
marks_say r c [] = empty
marks_say r c (chain ∷ chains) = group_says (filled (codes "stroke") c refl ⊕ filled (codes "fill") c refl) (ring_says r chain.start ⊕ square_says r chain.stop) ⊕ marks_say r (c + 1) chains

transform_says : (s : Sheet) → Quiet (transform s)
unfolding transform
transform_says s =
    quiet (codes "translate(") refl ⊕ number s.margin ⊕ quiet (codes " ") refl ⊕ number s.margin ⊕ quiet (codes ")scale(-1 1)translate(") refl ⊕ signed s.bounds.left.x ⊕ quiet (codes " ") refl ⊕ signed s.bounds.top.y ⊕ quiet (codes ")scale(-1 -1)") refl

drawing_says : (s : Sheet) (chains : List DrawnChain) → Says (link_count chains) (drawing s chains)
unfolding drawing
drawing_says s chains =
    let cells = group_says (word_says (codes "fill-opacity") (codes ".25") refl refl) (cells_say 0 chains) in
    let lines = group_loud (size_says (codes "stroke-width") s.stroke refl ⊕ word_says (codes "stroke-linecap") (codes "round") refl refl) (links_from_say (3 * s.stroke) 0 chains) in
    let marks = group_says (size_says (codes "stroke-width") (2 * s.stroke) refl) (marks_say s.mark 0 chains) in
    same (group_loud (attribute_says (codes "transform") refl (transform_says s)) (loud cells ⊞ lines ⊞ loud marks)) (omega arith)

word_at_says : {attributes word : List ℕ} (x row : ℕ) → Quiet attributes → Quiet word → Quiet (word_at x row attributes word)
unfolding word_at
word_at_says x row h k = element_says text_tag (size_says (codes "x") x refl ⊕ size_says (codes "y") (15 * row + 10) refl ⊕ h) k

until_says : {word : List ℕ} (x row : ℕ) → Quiet word → Quiet (word_until x row word)
unfolding word_until
until_says x row k = word_at_says x row (word_says (codes "text-anchor") (codes "end") refl refl) k

nowhere_says : {note : List ℕ} (p : Option Point) → Quiet note → Quiet (nowhere note p)
nowhere_says None h = h
nowhere_says (Some p) h = empty

label_says : (chain : DrawnChain) → Quiet (label chain)
unfolding label
label_says chain = escaped_says chain.name ⊕ nowhere_says chain.start (quiet (codes " (start stands nowhere)") refl) ⊕ nowhere_says chain.stop (quiet (codes " (stop stands nowhere)") refl)

numbers_say : (t : Totals) (row units bits length : ℕ) → Quiet (numbers t row units bits length)
unfolding numbers
numbers_say t row units bits length = until_says 60 row (number units) ⊕ until_says 114 row (number bits) ⊕ until_says t.lengths_end row (number length)

swatch_says : (c : ℕ) → Quiet (swatch c)
unfolding swatch
swatch_says c =
    leaf_says rect_tag (size_says (codes "y") (15 * (c + 3) + 1) refl ⊕ word_says (codes "width") (codes "18") refl refl ⊕ word_says (codes "height") (codes "10") refl refl ⊕ filled (codes "fill") c refl)

rows_from_say : (t : Totals) (c : ℕ) (chains : List DrawnChain) → Quiet (rows_from t c chains)
unfolding rows_from
rows_from_say t c [] = empty
rows_from_say t c (chain ∷ chains) =
    swatch_says c ⊕ numbers_say t (c + 3) chain.units chain.bits chain.length ⊕ word_at_says t.labels_begin (c + 3) (filled (codes "fill") c refl) (label_says chain) ⊕ rows_from_say t (c + 1) chains

dashes_say : (row : ℕ) → Quiet (dashes row)
unfolding dashes
dashes_say row =
    leaf_says path_tag (word_says (codes "stroke") (codes "#222") refl refl ⊕ word_says (codes "stroke-dasharray") (codes "3") refl refl ⊕ attribute_says (codes "d") refl (quiet (codes "M0 ") refl ⊕ number (15 * row + 6) ⊕ quiet (codes "h18") refl))
    ⊕ word_at_says 24 row empty (quiet (codes "unit of several cells, from entry to exit") refl)

keys_say : (row : ℕ) → Quiet (keys row)
unfolding keys
keys_say row =
    group_says (word_says (codes "stroke") (codes "#222") refl refl) (ring_says 4 (Some (mark_at row))) ⊕ word_at_says 24 row empty (quiet (codes "start") refl)
    ⊕ square_says 4 (Some (mark_at (row + 1))) ⊕ word_at_says 24 (row + 1) empty (quiet (codes "stop") refl)
    ⊕ dashes_say (row + 2)
    ⊕ word_at_says 24 (row + 3) empty (quiet (codes "lengths in half database units") refl)

heads_say : (microns : ℕ) (t : Totals) → Quiet (heads microns t)
unfolding heads
heads_say microns t =
    word_at_says 0 1 empty (number microns ⊕ quiet (codes " &#181;m") refl)
    ⊕ until_says 60 2 (quiet (codes "units") refl) ⊕ until_says 114 2 (quiet (codes "bits") refl) ⊕ until_says t.lengths_end 2 (quiet (codes "length") refl) ⊕ word_at_says t.labels_begin 2 empty (quiet (codes "chain") refl)

foot_says : (t : Totals) (chains : ℕ) → Quiet (foot t chains)
unfolding foot
foot_says t chains = numbers_say t (chains + 3) t.units t.bits t.length ⊕ word_at_says t.labels_begin (chains + 3) empty (quiet (codes "all") refl) ⊕ keys_say (chains + 5)

scale_says : (s : Sheet) (units : ℕ) → Quiet (scale s units)
unfolding scale
scale_says s units =
    leaf_says path_tag
    (word_says (codes "fill") (codes "none") refl refl ⊕ word_says (codes "stroke") (codes "#222") refl refl ⊕ size_says (codes "stroke-width") s.stroke refl
    ⊕ attribute_says (codes "d") refl (quiet (codes "M0 0V") refl ⊕ number (10 * s.letter) ⊕ quiet (codes "H") refl ⊕ number (2 * units * s.microns) ⊕ quiet (codes "V0") refl))

rows_say : (microns : ℕ) (t : Totals) (chains : List DrawnChain) → Quiet (rows microns t chains)
unfolding rows
rows_say microns t chains = heads_say microns t ⊕ rows_from_say t 0 chains ⊕ foot_says t (length chains)

table_says : (s : Sheet) (chains : List DrawnChain) → Quiet (table s chains)
unfolding table
table_says s chains =
    group_says
    (attribute_says (codes "transform") refl (quiet (codes "scale(") refl ⊕ number s.letter ⊕ quiet (codes ")") refl) ⊕ word_says (codes "font-family") (codes "monospace") refl refl
    ⊕ word_says (codes "font-size") (codes "10") refl refl ⊕ word_says (codes "fill") (codes "#222") refl refl)
    (rows_say s.microns (totals_of chains) chains)

legend_says : (s : Sheet) (units : ℕ) (chains : List DrawnChain) → Quiet (legend s units chains)
unfolding legend
legend_says s units chains =
    group_says (attribute_says (codes "transform") refl (quiet (codes "translate(") refl ⊕ number (2 * s.margin + s.width) ⊕ quiet (codes " ") refl ⊕ number s.margin ⊕ quiet (codes ")") refl)) (scale_says s units ⊕ table_says s chains)

view_says : (s : Sheet) (chains : List DrawnChain) → Quiet (view s chains)
unfolding view
view_says s chains = quiet (codes "0 0 ") refl ⊕ number _ ⊕ quiet (codes " ") refl ⊕ number _

svg_says : (s : Sheet) (units : ℕ) (chains : List DrawnChain) → Says (link_count chains) (svg_by s units chains)
unfolding svg_by
svg_says s units chains =
    let back = leaf_says rect_tag (word_says (codes "width") (codes "100%") refl refl ⊕ word_says (codes "height") (codes "100%") refl refl ⊕ word_says (codes "fill") (codes "#fff") refl refl) in
    element_loud svg_tag (word_says (codes "xmlns") (codes "http://www.w3.org/2000/svg") refl refl ⊕ attribute_says (codes "viewBox") refl (view_says s chains))
    (same (loud (quiet (codes "\n") refl ⊕ back) ⊞ drawing_says s chains ⊞ loud (legend_says s units chains)) (omega arith))

picture_says : (units : ℕ) (chains : List DrawnChain) → Says (link_count chains) (svg_of units chains)
unfolding svg_of
picture_says units chains = svg_says (sheet_of units chains) units chains

pub plain_svg : (units : ℕ) (chains : List DrawnChain) → All IsPlainByte (svg_of units chains)
plain_svg units chains = all_plain (svg_of units chains) (picture_says units chains).plain

pub line_count : (units : ℕ) (chains : List DrawnChain) → count_of (codes "<line ") (svg_of units chains) ≡ link_count chains
line_count units chains =
    let counted = (picture_says units chains).count [] in
    let none : count_of (codes "<line ") [] ≡ 0 = refl in
    ap (count_of (codes "<line ")) (sym (append-nil (svg_of units chains))) ∙ omega (arith, counted, none)
