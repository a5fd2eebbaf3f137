-- The statements in the block of a Loop stand in its text.
use Rattle.std.proofs.Common.{◌≡◌, ◌≤◌, ℕ, zero, suc, Bool, true, false, cond, not, List, [], ◌∷◌, ◌++◌, length, take, map, filter, All, Option, Some, None, subst, arith}
use Rattle.std.proofs.lemmas.Option.{same_Some}
use Rattle.std.proofs.lemmas.List.Elements.{All-cons, All-nil}
use Rattle.std.specs.Str.{bytes_eq}
use Rattle.std.specs.List.{list_any}
use Rattle.std.specs.Prelude.{codes, ◌||◌, ◌==◌, ◌-◌}
use Rattle.base_types.specs.declared.span.Span.{Span}
use Rattle.token_forms.specs.Tokens.{Token, tokens_of, last_end_of, place_of}
use Rattle.token_forms.specs.Splits.{SplitFrom}
use Rattle.stil_tokens.specs.StilTokens.{tokens_in, stil_tokens}
use Rattle.stil_tokens.specs.StilSplit.{IsBlankPart, IsToken}
use Rattle.stil_tokens.specs.StilStatements.{is_only, is_closed, stil_statements, IsStatementSplit}
use Rattle.stil_tokens.proofs.StilSplitLaw.{stil_split}
use Rattle.stil_tokens.proofs.StilCuts.{statements_law}
use Rattle.stil_types.specs.declared.head.StilHead.{StilHead}
use Rattle.stil_types.specs.declared.statement.PatternStatement.{PatternStatement}
use Rattle.stil_types.specs.Statements.{IsPlacedIn, IsPlaced}
use Rattle.stil_syntax.specs.declared.item.Item.{Item}
use Rattle.stil_syntax.specs.declared.shape.Shape.{Shape}
use Rattle.stil_syntax.specs.declared.shape.Shape.TheVariants.{NoForm, Unsupported, Other, Scan, Loop}
use Rattle.stil_syntax.specs.Names.{is_word, name_at}
use Rattle.stil_syntax.specs.Grammar.{call_end}
use Rattle.stil_syntax.specs.Shapes.{behind_labels, closes_nothing, is_call, scans_by, callees, is_scan_call, holds_scan, passes_unread, other_shape, scan_shape, callee_shape, call_shape, before_block, behind_brace, in_block, is_empty, body_statements, loop_times, loop_by, loop_shape, word_shape, unlabelled_shape, shape_of}
use Rattle.stil_syntax.proofs.Labelled.{labels_law}
use Rattle.stil_calls.specs.Statements.{body_of, statement_of}

-- some tokens stand one behind the other, from a place on, in a text of so many bytes
abbrev Ordered : ℕ → ℕ → List Token → Type 0
Ordered size from [] = Unit {0}
Ordered size from (t ∷ ts) = (from ≤ t.start) × (t.start ≤ t.end) × (t.end ≤ size) × Ordered size t.end ts

-- anywhere in it
abbrev pub Inside : ℕ → List Token → Type 0
Inside size ts = Ordered size 0 ts

all_ordered : (text : List ℕ) (from : ℕ) (spans : List Span) → SplitFrom IsBlankPart IsToken text from spans → Ordered (length text) from (tokens_of text spans)
all_ordered text from [] s = tt
all_ordered text from (sp ∷ sps) s = (s.0.ordered, omega (arith, s.1.some), s.1.within, all_ordered text sp.end sps (s.2))

pub all_inside : (text : List ℕ) → Inside (length text) (tokens_in text)
all_inside text = all_ordered text 0 (stil_tokens text) (stil_split text)

earlier : (size a b : ℕ) (ts : List Token) → b ≤ a → Ordered size a ts → Ordered size b ts
earlier size a b [] le o = tt
earlier size a b (t ∷ ts) le o = (omega (arith, o.0), o.1, o.2, o.3)

behind_one : (size : ℕ) (t : Token) (ts : List Token) → Inside size (t ∷ ts) → Inside size ts
behind_one size t ts o = earlier size t.end 0 ts (omega arith) (o.3)

behind_front : (size : ℕ) (front ts : List Token) → Inside size (front ++ ts) → Inside size ts
behind_front size [] ts o = o
behind_front size (t ∷ front) ts o = behind_front size front ts (behind_one size t (front ++ ts) o)

front_ordered : (size from : ℕ) (front ts : List Token) → Ordered size from (front ++ ts) → Ordered size from front
front_ordered size from [] ts o = tt
front_ordered size from (t ∷ front) ts o = (o.0, o.1, o.2, front_ordered size t.end front ts (o.3))

taken : (size from n : ℕ) (ts : List Token) → Ordered size from ts → Ordered size from (take n ts)
taken size from zero ts o = tt
taken size from (suc n) [] o = tt
taken size from (suc n) (t ∷ ts) o = (o.0, o.1, o.2, taken size t.end n ts (o.3))

-- from the first to the last of them
last_end : (size from : ℕ) (t : Token) (ts : List Token) → Ordered size from (t ∷ ts) → (t.start ≤ last_end_of t ts) × (last_end_of t ts ≤ size)
last_end size from t [] o = (o.1, o.2)
last_end size from t (u ∷ us) o =
    let more = last_end size t.end u us (o.3) in
    (omega (arith, o.1, o.3.0, more.0), more.1)

place_inside : (size : ℕ) (s : List Token) → Inside size s → ((place_of s).start ≤ (place_of s).end) × ((place_of s).end ≤ size)
place_inside size [] o = (omega arith, omega arith)
place_inside size (t ∷ ts) o = last_end size 0 t ts o

-- the statements among them
abbrev EachInside : ℕ → List (List Token) → Type 0
EachInside size [] = Unit {0}
EachInside size (s ∷ ss) = Inside size s × EachInside size ss

each_by : (size : ℕ) (ts : List Token) (ss : List (List Token)) → IsStatementSplit ts ss → Inside size ts → EachInside size ss
each_by size ts [] split o = tt
each_by size ts (s ∷ ss) split o =
    let first = split.0 in
    let whole : Inside size (s ++ first.rest) = subst (Inside size) first.is o in
    (front_ordered size 0 s first.rest whole, each_by size first.rest ss (split.1) (behind_front size s first.rest whole))

kept_by : (size : ℕ) (b : Bool) (s : List Token) (ss : List (List Token)) → Inside size s → EachInside size ss → EachInside size (cond b (s ∷ ss) ss)
kept_by size true s ss o more = (o, more)
kept_by size false s ss o more = more

each_kept : (size : ℕ) (ss : List (List Token)) → EachInside size ss → EachInside size (filter (λ s. not (is_empty s)) ss)
each_kept size [] each = tt
each_kept size (s ∷ ss) each = kept_by size (not (is_empty s)) s (filter (λ s. not (is_empty s)) ss) (each.0) (each_kept size ss (each.1))

bodies_inside : (size : ℕ) (ts : List Token) → Inside size ts → EachInside size (body_statements ts)
bodies_inside size ts o = each_kept size (stil_statements ts) (each_by size ts (stil_statements ts) (statements_law ts) o)

-- a form, and the tokens in the block of a Loop
abbrev pub ShapeInside : ℕ → Shape → Type 0
ShapeInside size NoForm = Unit {0}
ShapeInside size Unsupported = Unit {0}
ShapeInside size Other = Unit {0}
ShapeInside size (Scan items) = Unit {0}
ShapeInside size (Loop times body) = Inside size body

either : (size : ℕ) (t : Bool) (x y : Shape) → ShapeInside size x → ShapeInside size y → ShapeInside size (cond t x y)
either size true x y p q = p
either size false x y p q = q

other_inside : (size : ℕ) (head : StilHead) (ts : List Token) → ShapeInside size (other_shape head ts)
other_inside size head ts = either size (holds_scan head false ts) Unsupported Other tt tt

scan_inside : (size : ℕ) (read : Option (List Item × List Token)) → ShapeInside size (scan_shape read)
scan_inside size None = tt
scan_inside size (Some (items, rest)) = either size (length rest == 0) (Scan items) NoForm tt tt

callee_inside : (size : ℕ) (head : StilHead) (ts : List Token) (scan : Option Bool) → ShapeInside size (callee_shape head ts scan)
callee_inside size head ts None = tt
callee_inside size head ts (Some true) = scan_inside size (call_end.reads ts)
callee_inside size head ts (Some false) = other_inside size head ts

call_inside : (size : ℕ) (head : StilHead) (word : List ℕ) (n : Option (List ℕ × List Token)) → ShapeInside size (call_shape head word n)
call_inside size head word None = tt
call_inside size head word (Some n) = callee_inside size head (n.1) (scans_by (callees head word) (n.0))

brace_by : (size : ℕ) (b : Bool) (ts rest : List Token) → Inside size ts → Inside size rest → Inside size (cond b ts rest)
brace_by size true ts rest o more = o
brace_by size false ts rest o more = more

brace_inside : (size : ℕ) (ts : List Token) → Inside size ts → Inside size (behind_brace ts)
brace_inside size [] o = tt
brace_inside size (t ∷ ts) o =
    let rest = behind_one size t ts o in
    brace_by size (is_only 123 t.text) ts (behind_brace ts) rest (brace_inside size ts rest)

block_inside : (size : ℕ) (ts : List Token) → Inside size ts → Inside size (in_block ts)
block_inside size ts o = taken size 0 (length (behind_brace ts) - 1) (behind_brace ts) (brace_inside size ts o)

times_inside : (size : ℕ) (times : Option ℕ) (body : List Token) → Inside size body → ShapeInside size (loop_by times body)
times_inside size None body o = tt
times_inside size (Some times) body o = o

loop_inside : (size : ℕ) (head : StilHead) (ts : List Token) → Inside size ts → ShapeInside size (loop_shape head ts)
loop_inside size head ts o =
    either size (list_any (is_scan_call head) (stil_statements (in_block ts))) (loop_by (loop_times (before_block ts)) (in_block ts)) (other_shape head ts)
    (times_inside size (loop_times (before_block ts)) (in_block ts) (block_inside size ts o)) (other_inside size head ts)

word_inside : (size : ℕ) (head : StilHead) (inside : Bool) (word : List ℕ) (ts : List Token) → Inside size ts → ShapeInside size (word_shape head inside word ts)
word_inside size head inside word ts o =
    either size (is_call word) _ _ (call_inside size head word (name_at ts))
    (either size (bytes_eq word (codes "Loop")) _ _ (either size inside _ _ (other_inside size head ts) (loop_inside size head ts o))
    (either size (passes_unread head word) _ _ (other_inside size head ts) tt))

unlabelled_inside : (size : ℕ) (head : StilHead) (inside : Bool) (ts : List Token) → Inside size ts → ShapeInside size (unlabelled_shape head inside ts)
unlabelled_inside size head inside [] o = tt
unlabelled_inside size head inside (t ∷ ts) o = either size (is_word t.text) _ _ (word_inside size head inside t.text ts (behind_one size t ts o)) tt

labels_inside : (size : ℕ) (ts : List Token) → Inside size ts → Inside size (behind_labels ts)
labels_inside size ts o =
    let labels = labels_law ts in
    behind_front size labels.stand.front (behind_labels ts) (subst (Inside size) labels.stand.is o)

pub shape_inside : (size : ℕ) (head : StilHead) (inside : Bool) (ts : List Token) → Inside size ts → ShapeInside size (shape_of head inside ts)
unfolding shape_of
shape_inside size head inside ts o =
    either size (not (is_closed ts) || closes_nothing 0 ts) _ _ tt (unlabelled_inside size head inside (behind_labels ts) (labels_inside size ts o))

body_placed : (head : StilHead) (line : ℕ) (text : List ℕ) (s : List Token) → Inside (length text) s → IsPlacedIn text (body_of head line text s)
body_placed head line text s o =
    let place = place_inside (length text) s o in
    record { ordered = place.0; within = place.1 }

bodies_placed : (head : StilHead) (line : ℕ) (text : List ℕ) (ss : List (List Token)) → EachInside (length text) ss → All (IsPlacedIn text) (map (body_of head line text) ss)
bodies_placed head line text [] each = All-nil (IsPlacedIn text)
bodies_placed head line text (s ∷ ss) each =
    All-cons (IsPlacedIn text) (body_of head line text s) (map (body_of head line text) ss) (body_placed head line text s (each.0)) (bodies_placed head line text ss (each.1))

placed_by : (head : StilHead) (pattern line : ℕ) (text : List ℕ) (shape : Shape) (s : PatternStatement) → ShapeInside (length text) shape → statement_of head pattern line text shape ≡ Some s → IsPlaced s
placed_by head pattern line text NoForm s o e = absurd cc
placed_by head pattern line text Unsupported s o e = absurd cc
placed_by head pattern line text Other s o e = subst IsPlaced (same_Some _ _ e) tt
placed_by head pattern line text (Scan items) s o e = subst IsPlaced (same_Some _ _ e) tt
placed_by head pattern line text (Loop times body) s o e = subst IsPlaced (same_Some _ _ e) (bodies_placed head line text (body_statements body) (bodies_inside (length text) body o))

pub is_placed : (head : StilHead) (pattern line : ℕ) (text : List ℕ) (s : PatternStatement) → statement_of head pattern line text (shape_of head false (tokens_in text)) ≡ Some s → IsPlaced s
is_placed head pattern line text s e = placed_by head pattern line text (shape_of head false (tokens_in text)) s (shape_inside (length text) head false (tokens_in text) (all_inside text)) e
