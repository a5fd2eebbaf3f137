-- The picture of scan chains, as an SVG text: what is drawn of the chains at the left, each layer over the one before it, and the legend at
-- the right. Numbers are half database units; the legend's own are a sixth of a letter's width.
use Rattle.std.specs.Prelude.{ℕ, ◌+◌, ◌*◌, ◌%◌, max, pos, List, [], ◌∷◌, ◌++◌, length, take, drop, codes, decimal, sum_by, Option, Some, None}
use Rattle.std.specs.Fmt.{signed_decimal}
use Rattle.base_types.specs.declared.span.Point.{Point}
use Rattle.chain_picture.specs.declared.chain.Segment.{Segment}
use Rattle.chain_picture.specs.declared.chain.DrawnChain.{DrawnChain}
use Rattle.chain_picture.specs.declared.sheet.Sheet.{Sheet}
use Rattle.chain_picture.specs.declared.totals.Totals.{Totals}
use Rattle.chain_picture.specs.Sizes.{row_count, sheet_of}
use Rattle.chain_picture.specs.Xml.{attribute, element, escaped, leaf, place, size}

-- fourteen colours that are well apart
unfoldable pub colours : List ℕ
colours = codes "e6194b3cb44b4363d8f58231911eb4469990f032e69a63248080000000758000001fa8c9bf9b006b6b6b"

-- the colour of the chain of a number; more chains than colours begin again
unfoldable pub colour : ℕ → List ℕ
colour c = codes "#" ++ take 6 (drop (6 * (c % 14)) colours)

-- a group of elements
abbrev pub group : List ℕ → List ℕ → List ℕ
group attributes content = element (codes "g") attributes (codes "\n" ++ content)

-- a point in the data of a path
unfoldable pub point : Point → List ℕ
point p = signed_decimal p.x ++ codes " " ++ signed_decimal p.y

-- the data of rectangles by opposite corners
unfoldable pub boxes : List Segment → List ℕ
boxes [] = []
boxes (s ∷ ss) =
    codes "M" ++ point s.from ++ codes "H" ++ signed_decimal s.to.x ++ codes "V" ++ signed_decimal s.to.y ++ codes "H" ++ signed_decimal s.from.x ++ codes "z" ++ boxes ss

-- the data of straight lines
unfoldable pub strokes : List Segment → List ℕ
strokes [] = []
strokes (s ∷ ss) = codes "M" ++ point s.from ++ codes "L" ++ point s.to ++ strokes ss

-- a link: the one kind of element that is a `line`
unfoldable pub link : Segment → List ℕ
link s = leaf (codes "line") (place (codes "x1") s.from.x ++ place (codes "y1") s.from.y ++ place (codes "x2") s.to.x ++ place (codes "y2") s.to.y)

-- one link behind another
unfoldable pub links : List Segment → List ℕ
links [] = []
links (s ∷ ss) = link s ++ links ss

-- the mark of a start: a ring with this radius
unfoldable pub ring : ℕ → Option Point → List ℕ
ring r None = []
ring r (Some p) = leaf (codes "circle") (place (codes "cx") p.x ++ place (codes "cy") p.y ++ size (codes "r") r ++ attribute (codes "fill") (codes "#fff"))

-- the data of a square of twice this size round a point
unfoldable pub square_data : ℕ → Point → List ℕ
square_data r p =
    codes "M" ++ point p ++ codes "m-" ++ decimal r ++ codes " -" ++ decimal r ++ codes "h" ++ decimal (2 * r) ++ codes "v" ++ decimal (2 * r) ++ codes "h-" ++ decimal (2 * r) ++ codes "z"

-- the mark of a stop: such a square
unfoldable pub square : ℕ → Option Point → List ℕ
square r None = []
square r (Some p) = leaf (codes "path") (attribute (codes "d") (square_data r p))

-- the cells of the chains from the one of number c on
unfoldable pub cells_from : ℕ → List DrawnChain → List ℕ
cells_from c [] = []
cells_from c (chain ∷ chains) = leaf (codes "path") (attribute (codes "fill") (colour c) ++ attribute (codes "d") (boxes chain.cells)) ++ cells_from (c + 1) chains

-- their links, and dashed their units of several cells
unfoldable pub links_from : ℕ → ℕ → List DrawnChain → List ℕ
links_from dash c [] = []
links_from dash c (chain ∷ chains) =
    group (attribute (codes "stroke") (colour c)) (leaf (codes "path") (size (codes "stroke-dasharray") dash ++ attribute (codes "d") (strokes chain.spans)) ++ links chain.links) ++ links_from dash (c + 1) chains

-- the marks of their starts and stops
unfoldable pub marks_from : ℕ → ℕ → List DrawnChain → List ℕ
marks_from r c [] = []
marks_from r c (chain ∷ chains) =
    group (attribute (codes "stroke") (colour c) ++ attribute (codes "fill") (colour c)) (ring r chain.start ++ square r chain.stop) ++ marks_from r (c + 1) chains

-- how places become those of the picture: they are turned upright, and the upper left corner moves into the margin
unfoldable pub transform : Sheet → List ℕ
transform s =
    codes "translate(" ++ decimal s.margin ++ codes " " ++ decimal s.margin ++ codes ")scale(-1 1)translate(" ++ signed_decimal s.bounds.left.x ++ codes " " ++ signed_decimal s.bounds.top.y ++ codes ")scale(-1 -1)"

-- what is drawn of the chains: the cells, the links over them, and over these the marks
unfoldable pub drawing : Sheet → List DrawnChain → List ℕ
drawing s chains =
    group (attribute (codes "transform") (transform s))
    (group (attribute (codes "fill-opacity") (codes ".25")) (cells_from 0 chains)
    ++ group (size (codes "stroke-width") s.stroke ++ attribute (codes "stroke-linecap") (codes "round")) (links_from (3 * s.stroke) 0 chains)
    ++ group (size (codes "stroke-width") (2 * s.stroke)) (marks_from s.mark 0 chains))

-- a word of the legend from a place on, in the row of a number
unfoldable pub word_at : ℕ → ℕ → List ℕ → List ℕ → List ℕ
word_at x row attributes word = element (codes "text") (size (codes "x") x ++ size (codes "y") (15 * row + 10) ++ attributes) word

-- one that ends at a place
unfoldable pub word_until : ℕ → ℕ → List ℕ → List ℕ
word_until x row word = word_at x row (attribute (codes "text-anchor") (codes "end")) word

-- a note where a point stands nowhere
abbrev pub nowhere : List ℕ → Option Point → List ℕ
nowhere note None = note
nowhere note (Some p) = []

-- the name of a chain, and which of its ends stand nowhere
unfoldable pub label : DrawnChain → List ℕ
label chain = escaped chain.name ++ nowhere (codes " (start stands nowhere)") chain.start ++ nowhere (codes " (stop stands nowhere)") chain.stop

-- the bytes of the longest label
abbrev pub longest : List DrawnChain → ℕ
longest [] = 0
longest (chain ∷ chains) = max (length (label chain)) (longest chains)

-- the length of all chains
abbrev pub total_length : List DrawnChain → ℕ
total_length chains = sum_by (λ c. c.length) chains

-- where the lengths end, by the length of all chains
abbrev pub lengths_end : ℕ → ℕ
lengths_end total = 126 + 6 * max 6 (length (decimal total))

-- what is said of all chains, and the columns that hang on it
abbrev pub totals_of : List DrawnChain → Totals
totals_of chains = record {
  units = sum_by (λ c. c.units) chains;
  bits = sum_by (λ c. c.bits) chains;
  length = total_length chains;
  lengths_end = lengths_end (total_length chains);
  labels_begin = lengths_end (total_length chains) + 12;
}

-- the numbers of a row: of units, of bits, and a length
unfoldable pub numbers : Totals → ℕ → ℕ → ℕ → ℕ → List ℕ
numbers t row units bits length = word_until 60 row (decimal units) ++ word_until 114 row (decimal bits) ++ word_until t.lengths_end row (decimal length)

-- the colour of the chain of a number, in its row
unfoldable pub swatch : ℕ → List ℕ
swatch c = leaf (codes "rect") (size (codes "y") (15 * (c + 3) + 1) ++ attribute (codes "width") (codes "18") ++ attribute (codes "height") (codes "10") ++ attribute (codes "fill") (colour c))

-- the rows of the chains from the one of number c on
unfoldable pub rows_from : Totals → ℕ → List DrawnChain → List ℕ
rows_from t c [] = []
rows_from t c (chain ∷ chains) =
    swatch c ++ numbers t (c + 3) chain.units chain.bits chain.length ++ word_at t.labels_begin (c + 3) (attribute (codes "fill") (colour c)) (label chain) ++ rows_from t (c + 1) chains

-- the place of a mark in a row
abbrev pub mark_at : ℕ → Point
mark_at row = record { x = pos 9; y = pos (15 * row + 6) }

-- what the dashes mean
unfoldable pub dashes : ℕ → List ℕ
dashes row =
    leaf (codes "path") (attribute (codes "stroke") (codes "#222") ++ attribute (codes "stroke-dasharray") (codes "3") ++ attribute (codes "d") (codes "M0 " ++ decimal (15 * row + 6) ++ codes "h18"))
    ++ word_at 24 row [] (codes "unit of several cells, from entry to exit")

-- what the marks and the dashes mean, and the unit of lengths, from a row on
unfoldable pub keys : ℕ → List ℕ
keys row =
    group (attribute (codes "stroke") (codes "#222")) (ring 4 (Some (mark_at row))) ++ word_at 24 row [] (codes "start")
    ++ square 4 (Some (mark_at (row + 1))) ++ word_at 24 (row + 1) [] (codes "stop")
    ++ dashes (row + 2)
    ++ word_at 24 (row + 3) [] (codes "lengths in half database units")

-- the microns of the scale, and the heads of the columns
unfoldable pub heads : ℕ → Totals → List ℕ
heads microns t =
    word_at 0 1 [] (decimal microns ++ codes " &#181;m")
    ++ word_until 60 2 (codes "units") ++ word_until 114 2 (codes "bits") ++ word_until t.lengths_end 2 (codes "length") ++ word_at t.labels_begin 2 [] (codes "chain")

-- the row of all chains, of which there are so many, and the keys
unfoldable pub foot : Totals → ℕ → List ℕ
foot t chains = numbers t (chains + 3) t.units t.bits t.length ++ word_at t.labels_begin (chains + 3) [] (codes "all") ++ keys (chains + 5)

-- the rows of the legend, behind that of the scale
unfoldable pub rows : ℕ → Totals → List DrawnChain → List ℕ
rows microns t chains = heads microns t ++ rows_from t 0 chains ++ foot t (length chains)

-- the scale: a bracket as wide as its microns
unfoldable pub scale : Sheet → ℕ → List ℕ
scale s units =
    leaf (codes "path") (attribute (codes "fill") (codes "none") ++ attribute (codes "stroke") (codes "#222") ++ size (codes "stroke-width") s.stroke ++ attribute (codes "d") (codes "M0 0V" ++ decimal (10 * s.letter) ++ codes "H" ++ decimal (2 * units * s.microns) ++ codes "V0"))

-- the rows, by a size of their own
unfoldable pub table : Sheet → List DrawnChain → List ℕ
table s chains =
    group (attribute (codes "transform") (codes "scale(" ++ decimal s.letter ++ codes ")") ++ attribute (codes "font-family") (codes "monospace") ++ attribute (codes "font-size") (codes "10") ++ attribute (codes "fill") (codes "#222"))
    (rows s.microns (totals_of chains) chains)

-- the legend, a margin to the right of what is drawn
unfoldable pub legend : Sheet → ℕ → List DrawnChain → List ℕ
legend s units chains =
    group (attribute (codes "transform") (codes "translate(" ++ decimal (2 * s.margin + s.width) ++ codes " " ++ decimal s.margin ++ codes ")")) (scale s units ++ table s chains)

-- how wide the legend is, in its own units
abbrev pub legend_width : List DrawnChain → ℕ
legend_width chains = max 280 ((totals_of chains).labels_begin + 6 * longest chains)

-- how high it is
abbrev pub legend_height : List DrawnChain → ℕ
legend_height chains = 15 * row_count (length chains)

-- the extent of the whole, with its margins
unfoldable pub view : Sheet → List DrawnChain → List ℕ
view s chains =
    codes "0 0 " ++ decimal (3 * s.margin + s.width + s.letter * legend_width chains) ++ codes " " ++ decimal (2 * s.margin + max (s.letter * legend_height chains) s.height)

-- the picture by its sizes
unfoldable pub svg_by : Sheet → ℕ → List DrawnChain → List ℕ
svg_by s units chains =
    element (codes "svg") (attribute (codes "xmlns") (codes "http://www.w3.org/2000/svg") ++ attribute (codes "viewBox") (view s chains))
    (codes "\n" ++ leaf (codes "rect") (attribute (codes "width") (codes "100%") ++ attribute (codes "height") (codes "100%") ++ attribute (codes "fill") (codes "#fff"))
    ++ drawing s chains ++ legend s units chains)

-- the picture of chains, with so many database units a micron
unfoldable pub svg_of : ℕ → List DrawnChain → List ℕ
svg_of units chains = svg_by (sheet_of units chains) units chains

-- how many links are drawn
abbrev pub link_count : List DrawnChain → ℕ
link_count chains = sum_by (λ c. length c.links) chains
