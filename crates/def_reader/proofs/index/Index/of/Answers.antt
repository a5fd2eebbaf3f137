use Rattle.std.proofs.Common.{rules, ◌≡◌, ◌<◌, ◌+◌, ℕ, List, Option, not, is_none, length, map, take, replicate, refl, ap, ◌∙◌, subst, arith}
use Rattle.std.specs.List.{position}
use Rattle.std.specs.Str.{bytes_eq}
use Rattle.std.proofs.lemmas.Option.{slice_get_read}
use Rattle.std.proofs.lemmas.Slice.Eq.{bytes_eq-Decides}
use Rattle.std.specs.Prelude.{slice_get}
use Rattle.def_reader.specs.Faults.{StandsAgain}
use Rattle.list_laws.specs.Leasts.{IsLeast, lesser, found_if}
use Rattle.def_reader.specs.Steps.{IsSeen}
use Rattle.def_reader.proofs.Again.{seen_more, none_again}
use Rattle.def_reader.proofs.Apart.{apart, none_is}
use Rattle.def_reader.proofs.Chained.{has_row, has_more, none_entered, not_some}
use Rattle.list_laws.proofs.RowsMore.{take_next, row_next, rows_all}
use Rattle.def_reader.proofs.index.Index.of.Goals as goal

pub loop-row-init : goal.loop-row-init
loop-row-init g c =
    let some : 0 < c.max.result = omega (arith, c.max.ensures) in
    let zero : c.in_ok-vec.field-0.items ≡ replicate {A = ℕ} c.max.result 0 = search rules in
    record {
      entered = rw (zero, c.in_ok-with_capacity.ensures.items) (none_entered g.T.Named.name_of c.key_of.result c.max.result c.args.rows.now some);
      count = ap length c.in_ok-with_capacity.ensures.items;
      key = c.key_of.ensures.value;
      seen = record { was = λ q h. absurd cc; kept = λ q h. absurd (omega (arith, h.1)); least = none_again };
    }

pub enter-requires-clause-next : goal.enter-requires-clause-next
enter-requires-clause-next g c =
    ap (slice_get c.args.rows.now) c.loop-row.invariant.count
    ∙ slice_get_read c.args.rows.now (length c.args.rows.now) c.loop-row.row-index c.row-item.result refl c.loop-row-test.true c.row-item.is

pub loop-row-preserved : goal.loop-row-preserved
loop-row-preserved g c =
    let name = g.T.Named.name_of in
    let rows = c.args.rows.now in
    let i = c.loop-row.row-index in
    let row = c.row-item.result in
    let added = c.in_ok-added.added in
    let fresh = c.in_ok-added.ensures.added ∙ ap (λ (n : ℕ). is_none (position (λ other. bytes_eq (name other) (name row)) (take n rows))) c.loop-row.invariant.count ∙ not_some _ in
    record {
      entered = c.in_ok-added.ensures.entered;
      count = c.in_ok-added.ensures.count ∙ ap (λ (n : ℕ). n + 1) c.loop-row.invariant.count;
      key = c.in_ok-added.ensures.key ∙ c.loop-row.invariant.key;
      seen =
          rw (c.lesser-least.ensures.value, c.line_if.ensures.value)
          (row_next name g.T.Named.line_of rows i row (name row) c.line.result (IsSeen (λ q. q) (has_row name (take (i + 1) rows)) (lesser c.loop-row.least (found_if (not added) c.line.result))) c.loop-row-test.true
          c.row-item.is refl c.line.ensures.value
          (seen_more {Q = List ℕ} {K = List ℕ} (λ q. q) (has_row name (take i rows)) (has_row name (take (i + 1) rows)) (λ q. bytes_eq (name row) q) (name row) (λ q e. (bytes_eq-Decides (name row) q).0 e)
          (λ q e. (bytes_eq-Decides (name row) q).1 e) added c.loop-row.least _ c.line.result (λ q. ap (λ l. has_row name l q) (take_next rows i row c.loop-row-test.true c.row-item.is) ∙ has_more name (take i rows) row q) fresh
          c.loop-row.invariant.seen));
    }

pub returns-clause-index : goal.returns-clause-index
returns-clause-index g c =
    let name = g.T.Named.name_of in
    let line = g.T.Named.line_of in
    let rows = c.args.rows.now in
    let least = rows_all name line rows c.loop-row.row-index (λ (l : List (List ℕ × ℕ)). IsLeast (StandsAgain l) c.loop-row.least) c.loop-row-test.false c.loop-row.invariant.seen.least in
    let whole : length c.loop-row.index.links.items ≡ length rows = omega (arith, c.loop-row.invariant.count) in
    record {
      entered = c.loop-row.invariant.entered;
      whole = whole;
      apart = λ e. apart name line rows (subst (λ (o : Option ℕ). IsLeast (StandsAgain (map {B = List ℕ × ℕ} (λ r. (name r, line r)) rows)) o) (none_is c.loop-row.least c.is_none.result e c.is_none.ensures) least);
    }

pub returns-clause-least : goal.returns-clause-least
returns-clause-least g c =
    rows_all g.T.Named.name_of g.T.Named.line_of c.args.rows.now c.loop-row.row-index (λ (l : List (List ℕ × ℕ)). IsLeast (StandsAgain l) c.loop-row.least) c.loop-row-test.false c.loop-row.invariant.seen.least
