-- Each Loop of a text runs at least once.
use Rattle.std.proofs.Common.{◌≡◌, ℕ, ◌<◌, Bool, true, false, ◌&&◌, ◌||◌, cond, not, List, [], ◌∷◌, ◌++◌, length, codes, Option, Some, None, refl, sym, ap, subst, arith}
use Rattle.std.specs.Prelude.{All, nat_le, ◌==◌}
use Rattle.std.specs.List.{flat_map, list_any, list_all}
use Rattle.std.specs.Str.{bytes_eq}
use Rattle.std.proofs.lemmas.Bool.{leb-true}
use Rattle.std.proofs.lemmas.List.Elements.{All-nil, All-cons, All-append}
use Rattle.base_types.proofs.TruthValues.{and_first, and_second}
use Rattle.token_forms.specs.Tokens.{Token}
use Rattle.stil_types.specs.declared.head.StilHead.{StilHead}
use Rattle.stil_types.specs.declared.statement.PatternStatement.{PatternStatement}
use Rattle.stil_tokens.specs.StilTokens.{tokens_in}
use Rattle.stil_tokens.specs.StilStatements.{stil_statements, is_closed}
use Rattle.stil_syntax.specs.declared.item.Item.{Item}
use Rattle.stil_syntax.specs.declared.shape.Shape.{Shape}
use Rattle.stil_syntax.specs.declared.shape.Shape.TheVariants as shapes
use Rattle.stil_syntax.specs.Digits.{is_digit, count_from}
use Rattle.stil_syntax.specs.Grammar.{call_end}
use Rattle.stil_syntax.specs.Names.{is_word, name_at}
use Rattle.stil_syntax.specs.Shapes.{holds_scan, other_shape, scan_shape, callee_shape, call_shape, callees, scans_by, is_call, is_scan_call, in_block, before_block, is_times, times_of, loop_times, loop_by, loop_shape, passes_unread, word_shape, unlabelled_shape, closes_nothing, behind_labels, shape_of}
use Rattle.stil_parts.specs.Coming.{Event, Byte, Opened, Statement, Coming}
use Rattle.stil_calls.specs.Statements.{statement_of}
use Rattle.stil_calls.specs.Parts.{opened_in}
use Rattle.stil_reader.specs.Sayings.{Saying, Head, GapByte, Named, Stated, named, stated, said, told}
use Rattle.stil_reader.specs.Patterns.{statements_in}
use Rattle.scan_verify.specs.Reruns.{IsRun}

-- a shape that is a Loop runs at least once
abbrev IsRunShape : Shape → Type 0
IsRunShape (shapes.Loop times body) = 0 < times
IsRunShape shapes.NoForm = Unit {0}
IsRunShape shapes.Unsupported = Unit {0}
IsRunShape shapes.Other = Unit {0}
IsRunShape (shapes.Scan items) = Unit {0}

if_run : (b : Bool) (x y : Shape) → IsRunShape x → IsRunShape y → IsRunShape (cond b x y)
if_run true x y one other = one
if_run false x y one other = other

-- a number, where there is one, is above 0
abbrev IsAbove : Option ℕ → Type 0
IsAbove None = Unit {0}
IsAbove (Some n) = 0 < n

times_above : (text : List ℕ) → IsAbove (times_of text)
times_above text = by (list_all is_digit text && is_times (count_from 0 text)) refl where
  by : (b : Bool) → (list_all is_digit text && is_times (count_from 0 text)) ≡ b → IsAbove (cond b (Some (count_from 0 text)) None)
  by false e = tt
  by true e =
      let low = and_first (nat_le 1 (count_from 0 text)) (nat_le (count_from 0 text) 1000000) (and_second (list_all is_digit text) (is_times (count_from 0 text)) e) in
      let one = leb-true 1 (count_from 0 text) low in
      omega (arith, one)

loop_times_above : (ts : List Token) → IsAbove (loop_times ts)
loop_times_above [] = tt
loop_times_above (t ∷ []) = times_above t.text
loop_times_above (t ∷ u ∷ ts) = tt

loop_run : (o : Option ℕ) (body : List Token) → IsAbove o → IsRunShape (loop_by o body)
loop_run None body above = tt
loop_run (Some n) body above = above

other_run : (head : StilHead) (ts : List Token) → IsRunShape (other_shape head ts)
other_run head ts = if_run (holds_scan head false ts) shapes.Unsupported shapes.Other tt tt

scan_run : (o : Option (List Item × List Token)) → IsRunShape (scan_shape o)
scan_run None = tt
scan_run (Some n) = if_run (length n.1 == 0) (shapes.Scan n.0) shapes.NoForm tt tt

callee_run : (head : StilHead) (ts : List Token) (o : Option Bool) → IsRunShape (callee_shape head ts o)
callee_run head ts None = tt
callee_run head ts (Some true) = scan_run (call_end.reads ts)
callee_run head ts (Some false) = other_run head ts

call_run : (head : StilHead) (word : List ℕ) (o : Option (List ℕ × List Token)) → IsRunShape (call_shape head word o)
call_run head word None = tt
call_run head word (Some n) = callee_run head n.1 (scans_by (callees head word) n.0)

loop_shape_run : (head : StilHead) (ts : List Token) → IsRunShape (loop_shape head ts)
loop_shape_run head ts =
    if_run (list_any (is_scan_call head) (stil_statements (in_block ts))) (loop_by (loop_times (before_block ts)) (in_block ts)) (other_shape head ts)
    (loop_run (loop_times (before_block ts)) (in_block ts) (loop_times_above (before_block ts))) (other_run head ts)

word_run : (head : StilHead) (inside : Bool) (word : List ℕ) (ts : List Token) → IsRunShape (word_shape head inside word ts)
word_run head inside word ts =
    if_run (is_call word) (call_shape head word (name_at ts)) _ (call_run head word (name_at ts))
    (if_run (bytes_eq word (codes "Loop")) (cond inside (other_shape head ts) (loop_shape head ts)) _ (if_run inside (other_shape head ts) (loop_shape head ts) (other_run head ts) (loop_shape_run head ts))
    (if_run (passes_unread head word) (other_shape head ts) shapes.Unsupported (other_run head ts) tt))

unlabelled_run : (head : StilHead) (inside : Bool) (ts : List Token) → IsRunShape (unlabelled_shape head inside ts)
unlabelled_run head inside [] = tt
unlabelled_run head inside (t ∷ ts) = if_run (is_word t.text) (word_shape head inside t.text ts) shapes.NoForm (word_run head inside t.text ts) tt

shape_run : (head : StilHead) (inside : Bool) (ts : List Token) → IsRunShape (shape_of head inside ts)
unfolding shape_of
shape_run head inside ts = if_run (not (is_closed ts) || closes_nothing 0 ts) shapes.NoForm (unlabelled_shape head inside (behind_labels ts)) tt (unlabelled_run head inside (behind_labels ts))

-- so is a statement

stated_run : (head : StilHead) (pattern line : ℕ) (text : List ℕ) (shape : Shape) → IsRunShape shape → All IsRun (statements_in (stated (statement_of head pattern line text shape)))
stated_run head pattern line text (shapes.Scan items) run = All-cons IsRun _ [] tt (All-nil IsRun)
stated_run head pattern line text shapes.Other run = All-cons IsRun _ [] tt (All-nil IsRun)
stated_run head pattern line text (shapes.Loop times body) run = All-cons IsRun _ [] run (All-nil IsRun)
stated_run head pattern line text shapes.NoForm run = All-nil IsRun
stated_run head pattern line text shapes.Unsupported run = All-nil IsRun

statements-append : (a b : List Saying) → statements_in (a ++ b) ≡ statements_in a ++ statements_in b
statements-append [] b = refl
statements-append (Head text ∷ a) b = statements-append a b
statements-append (GapByte x ∷ a) b = statements-append a b
statements-append (Named name ∷ a) b = statements-append a b
statements-append (Stated s ∷ a) b = ap (λ (xs : List PatternStatement). s ∷ xs) (statements-append a b)

named_run : (name : Option (List ℕ)) → All IsRun (statements_in (named name))
named_run None = All-nil IsRun
named_run (Some name) = All-nil IsRun

event_run : (head : StilHead) (e : Event) → All IsRun (statements_in (said head e))
event_run head (Byte b) = All-nil IsRun
event_run head (Opened text p) = named_run (opened_in text)
event_run head (Statement text p) = stated_run head _ p.line text (shape_of head false (tokens_in text)) (shape_run head false (tokens_in text))

events_run : (head : StilHead) (es : List Event) → All IsRun (statements_in (flat_map (said head) es))
events_run head [] = All-nil IsRun
events_run head (e ∷ es) =
    subst (All IsRun) (sym (statements-append (said head e) (flat_map (said head) es)))
    (All-append IsRun (statements_in (said head e)) (statements_in (flat_map (said head) es)) (event_run head e) (events_run head es))

pub told_run : (head : StilHead) (c : Coming) → All IsRun (statements_in (told head c).says)
told_run head c = events_run head c.events
