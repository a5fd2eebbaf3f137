-- How a scan for the end of a part passes over bytes that end none.
use Rattle.std.proofs.Common.{◌≡◌, ℕ, Bool, true, false, List, [], ◌∷◌, ◌++◌, length, refl, ap, ◌∙◌, None}
use Rattle.std.specs.List.{list_all}
use Rattle.std.proofs.lemmas.Bool.{and_parts}
use Rattle.stil_tokens.specs.StilTokens.{is_run}
use Rattle.stil_parts.specs.declared.word.Word.TheVariants.{Known}
use Rattle.stil_parts.specs.declared.scan.Mode.TheVariants.{Free, Run}
use Rattle.stil_parts.specs.declared.scan.Scan.{Scan}
use Rattle.stil_parts.specs.declared.scan.After.TheVariants.{Goes}
use Rattle.stil_parts.specs.Scanner.{end_of, run, step, mode_step, run_step, mark_step, later}
use Rattle.stil_parts.proofs.Ends.{end-on, run-on}
use Rattle.stil_parts.proofs.TokenEnds.{IsDull, dull}

-- a scan passes over the bytes, and comes to another
pub record Through (s : Scan) (x : List ℕ) (t : Scan) : Type 0 where
  pub none : end_of false s x ≡ None
  pub reaches : run s x ≡ t

pub over : (last : Bool) (s t : Scan) (x y : List ℕ) → Through s x t → end_of last s (x ++ y) ≡ later (length x) (end_of last t y)
over last s t x y p = end-on last s x y p.none ∙ ap (λ (u : Scan). later (length x) (end_of last u y)) p.reaches

pub through_both : (s t u : Scan) (x y : List ℕ) → Through s x t → Through t y u → Through s (x ++ y) u
through_both s t u x y p q = record {
  none = over false s t x y p ∙ ap (later (length x)) q.none;
  reaches = run-on s x y p.none ∙ ap (λ (v : Scan). run v y) p.reaches ∙ q.reaches;
}

pub through_none : (s : Scan) → Through s [] s
unfolding end_of run
through_none s = record { none = refl; reaches = refl }

-- behind the word of the part
abbrev pub at_mode : ℕ → Scan
at_mode depth = record { mode = Free; depth = depth; word = Known false }

abbrev pub in_run : ℕ → Scan
in_run depth = record { mode = Run; depth = depth; word = Known false }

one_run : (depth b : ℕ) → IsDull b → step (in_run depth) b ≡ Goes (in_run depth)
unfolding step mode_step run_step mark_step
one_run depth b i = rw (i.blank, i.quote, i.semicolon, i.closing, i.opening, i.other) refl

-- the bytes of a run
pub run_through : (depth : ℕ) (x : List ℕ) → list_all is_run x ≡ true → Through (in_run depth) x (in_run depth)
unfolding end_of run
run_through depth [] all = record { none = refl; reaches = refl }
run_through depth (b ∷ bs) all =
    let h = and_parts (is_run b) (list_all is_run bs) all in
    let more = run_through depth bs h.1 in
    record { none = rw (end_of, one_run depth b (dull b h.0), more.none) refl; reaches = rw (run, one_run depth b (dull b h.0)) more.reaches }
