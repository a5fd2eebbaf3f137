use Rattle.std.proofs.Common.{◌≡◌, ℕ, ◌-◌, ◌<◌, List, Bool, drop, false, length, arith, sym, ap, ◌∙◌, add-one, ◌&&◌, get_or}
use Rattle.std.specs.Prelude.{Some}
use Rattle.std.proofs.lemmas.List.{get_or_default}
use Rattle.stil_tester.specs.declared.symbol.Symbol.{Symbol}
use Rattle.stil_tester.specs.declared.symbol.Symbol.TheVariants.{Unknown, Zero}
use Rattle.stil_tester.specs.Symbols.{expect_of, flip_if, meets, padded_load, differ, parity_of}
use Rattle.stil_tester.specs.Shifting.{cell_at, held_by}
use Rattle.stil_tester.specs.ChainCalls.{all_below, coming_out, met_at}
use Rattle.stil_tester.proofs.ChainCalls.{coming_out-held, coming_out-loaded, length-padded_load, parity_back}
use Rattle.stil_tester.proofs.chain_call.is_text_met.Goals as goal

pub loop-k-preserved : goal.loop-k-preserved
loop-k-preserved c =
    let chain = c.args.chain.now in
    let cells = c.args.cells.now in
    let text = c.args.text.now in
    let load = c.args.load.now in
    let shifts : ℕ = c.args.shifts in
    let k : ℕ = c.loop-k.k in
    let ps : List Bool = c.as_slice-parities.result.now in
    let bs : List ℕ = c.as_slice-bits.result.now in
    let bits : bs ≡ chain.cells = c.as_slice-bits.ensures.value in
    let parities : ps ≡ chain.parity = c.as_slice-parities.ensures.value in
    let same : length ps ≡ length bs = ap length parities ∙ c.requires.chain.parities ∙ sym (ap length bits) in
    let ss : List Symbol = padded_load shifts load in
    let n : length ss ≡ shifts = length-padded_load shifts load c.requires.load in
    let within : k < length bs = omega (arith, c.loop-k-test.true, c.min-inside.ensures) in
    let seen : k < length text = omega (arith, c.loop-k-test.true, c.min-inside.ensures) in
    let test : ℕ → Bool = met_at chain cells shifts load (Some text) in
    let cell : get_or bs (length bs - 1 - k) 0 ≡ get_or chain.cells (length chain.cells - 1 - k) 0 = λ i. get_or (bits i) (length (bits i) - 1 - k) 0 in
    let there : get_or bs (length bs - 1 - k) 0 < length cells =
    omega (arith, c.requires.below (length chain.cells - 1 - k) 0 (omega (arith, ap length bits)), cell) in
    let symbol : flip_if c.loop-k.parity (get_or cells (get_or bs (length bs - 1 - k) 0) Zero) ≡ coming_out chain ss (held_by chain cells) k =
    ap (flip_if c.loop-k.parity) (get_or_default cells (get_or bs (length bs - 1 - k) 0) Zero Unknown there)
    ∙ (λ i. flip_if (c.loop-k.invariant.parity i) (cell_at cells (get_or (bits i) (length (bits i) - 1 - k) 0)))
    ∙ ap (λ (qs : List Bool). flip_if (differ (parity_of (drop (length qs - k) qs)) chain.out_parity) (cell_at cells (get_or chain.cells (length chain.cells - 1 - k) 0))) parities
    ∙ sym (coming_out-held chain cells ss k c.requires.chain (omega (arith, ap length bits)) (omega (arith, c.requires.compare))) in
    let met : c.is_met_behind-met.result ≡ test k =
    c.is_met_behind-met.ensures
    ∙ (λ i. meets (expect_of (get_or_default text k 0 88 seen i)) (symbol i)) in
    record {
      parity = (λ i. differ (c.loop-k.invariant.parity i) (get_or ps (length bs - 1 - k) false))
          ∙ ap (λ m. differ (differ (parity_of (drop (length ps - k) ps)) chain.out_parity) (get_or ps (m - 1 - k) false)) (sym same)
          ∙ parity_back ps chain.out_parity false k (omega arith);
      verdict = (λ i. c.loop-k.invariant.verdict i && met i) ∙ ap (λ m. all_below m test) (sym (add-one k));
    }

pub loop-k-2-preserved : goal.loop-k-2-preserved
loop-k-2-preserved c =
    let chain = c.args.chain.now in
    let cells = c.args.cells.now in
    let text = c.args.text.now in
    let load = c.args.load.now in
    let shifts : ℕ = c.args.shifts in
    let k : ℕ = c.loop-k-2.k in
    let ps : List Bool = c.as_slice-parities.result.now in
    let bs : List ℕ = c.as_slice-bits.result.now in
    let bits : bs ≡ chain.cells = c.as_slice-bits.ensures.value in
    let parities : ps ≡ chain.parity = c.as_slice-parities.ensures.value in
    let same : length ps ≡ length bs = ap length parities ∙ c.requires.chain.parities ∙ sym (ap length bits) in
    let ss : List Symbol = padded_load shifts load in
    let n : length ss ≡ shifts = length-padded_load shifts load c.requires.load in
    let seen : k < length text = omega (arith, c.loop-k-2-test.true) in
    let past : length ps - c.loop-k.k ≡ 0 = omega (arith, c.loop-k-test.false, c.loop-k.auto.k-end, c.loop-k-2.auto.k, c.min-inside.ensures) in
    let beyond : length bs - k ≡ 0 = omega (arith, c.loop-k-test.false, c.loop-k-2.auto.k, c.min-inside.ensures) in
    let test : ℕ → Bool = met_at chain cells shifts load (Some text) in
    let total : c.loop-k.parity ≡ differ (parity_of chain.parity) chain.out_parity =
    c.loop-k.invariant.parity
    ∙ ap (λ m. differ (parity_of (drop m ps)) chain.out_parity) past
    ∙ ap (λ (qs : List Bool). differ (parity_of qs) chain.out_parity) parities in
    let symbol : flip_if c.loop-k.parity c.load_at.result ≡ coming_out chain ss (held_by chain cells) k =
    (λ i. flip_if (total i) (c.load_at.ensures i))
    ∙ ap (λ m. flip_if (differ (parity_of chain.parity) chain.out_parity) (get_or ss (k - m) Unknown)) (ap length bits)
    ∙ sym (coming_out-loaded chain cells ss k c.requires.chain (omega (arith, ap length bits)) (omega (arith, c.requires.compare))) in
    let met : c.is_met_behind-met-in-loop-k-2.result ≡ test k =
    c.is_met_behind-met-in-loop-k-2.ensures
    ∙ (λ i. meets (expect_of (get_or_default text k 0 88 seen i)) (symbol i)) in
    record {
      verdict = (λ i. c.loop-k-2.invariant.verdict i && met i) ∙ ap (λ m. all_below m test) (sym (add-one k));
    }
