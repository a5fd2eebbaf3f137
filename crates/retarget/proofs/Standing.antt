-- Each cell stands where chain_of and place_of say, and nowhere else.
use Rattle.std.proofs.Common.{◌≡◌, ◌≢◌, ℕ, ◌+◌, ◌<◌, ◌≤◌, ◌⊎◌, List, [], ◌∷◌, length, take, Bool, true, false, cond, sym, ap, ◌∙◌, arith, suc, zero, get_or, ⊎_elim, eqb, ltb, subst}
use Rattle.std.proofs.lemmas.Bool.{cases_Bool, cases_order, eq-eqb, eqb-true, lt-ltb, ltb-true}
use Rattle.std.proofs.lemmas.List.{length-append}
use Rattle.stil_tester.specs.declared.chains.ChainBits.{ChainBits}
use Rattle.stil_tester.specs.declared.chains.Chains.{Chains}
use Rattle.stil_tester.specs.Shifting.{AreChains, numbers_of, no_bits}
use Rattle.retarget.specs.Places.{chain_bits, bits_at, StandsAt, place_in, number_in, chain_of, place_of}
use Rattle.retarget.specs.Exits.{AreApart}
use Rattle.retarget.proofs.AllChains.{start_of, number_at, number_within, all_apart}

-- ---- cells of two chains, and of one, are apart

start_more : (chains : List ChainBits) (b c : ℕ) → b < c → c < length chains → start_of chains b + length (get_or chains b no_bits).cells ≤ start_of chains c
start_more [] b c h l = absurd (omega arith)
start_more (chain ∷ chains) b zero h l = absurd (omega arith)
start_more (chain ∷ chains) zero (suc c) h l = omega (arith, length-append chain.cells (numbers_of (take c chains)))
start_more (chain ∷ chains) (suc b) (suc c) h l =
    omega (arith, length-append chain.cells (numbers_of (take b chains)), length-append chain.cells (numbers_of (take c chains)), start_more chains b c (omega arith) (omega arith))

chains_apart : (chains : Chains) → AreChains chains → (b c i j : ℕ) → b < c → c < length chains.chains → i < bits_at chains b → j < bits_at chains c → get_or (chain_bits chains b).cells i 0 ≢ get_or (chain_bits chains c).cells j 0
chains_apart chains good b c i j h l m n e =
    all_apart chains good (start_of chains.chains b + i) (start_of chains.chains c + j)
    (omega (arith, start_more chains.chains b c h l)) (number_within chains.chains c j l n)
    (number_at chains.chains b i (omega arith) m ∙ e ∙ sym (number_at chains.chains c j l n))

chain_apart : (chains : Chains) → AreChains chains → (c : ℕ) → c < length chains.chains → AreApart (chain_bits chains c).cells
chain_apart chains good c l i j h m e =
    all_apart chains good (start_of chains.chains c + i) (start_of chains.chains c + j) (omega arith) (number_within chains.chains c j l m)
    (number_at chains.chains c i l (omega arith) ∙ e ∙ sym (number_at chains.chains c j l m))

-- ---- where a cell stands

-- the first place of a cell lies before each place where it stands
place_within : (cell : ℕ) (cells : List ℕ) (i : ℕ) → i < length cells → get_or cells i 0 ≡ cell → place_in cell cells < length cells
place_within cell [] i l e = absurd (omega arith)
place_within cell (other ∷ others) zero l e =
    let here : place_in cell (other ∷ others) ≡ 0 = ap (λ (b : Bool). cond b 0 (suc (place_in cell others))) (eq-eqb cell other (sym e)) in
    omega (arith, here)
place_within cell (other ∷ others) (suc i) l e =
    ⊎_elim (λ (q : eqb cell other ≡ true).
    let here : place_in cell (other ∷ others) ≡ 0 = ap (λ (b : Bool). cond b 0 (suc (place_in cell others))) q in
    omega (arith, here))
    (λ (q : eqb cell other ≡ false).
    let there : place_in cell (other ∷ others) ≡ suc (place_in cell others) = ap (λ (b : Bool). cond b 0 (suc (place_in cell others))) q in
    omega (arith, there, place_within cell others i (omega arith) e))
    (cases_Bool (eqb cell other))

-- there it stands
place_found : (cell : ℕ) (cells : List ℕ) → place_in cell cells < length cells → get_or cells (place_in cell cells) 0 ≡ cell
place_found cell [] l = absurd (omega arith)
place_found cell (other ∷ others) l =
    ⊎_elim (λ (q : eqb cell other ≡ true).
    let here : place_in cell (other ∷ others) ≡ 0 = ap (λ (b : Bool). cond b 0 (suc (place_in cell others))) q in
    ap (λ p. get_or (other ∷ others) p 0) here ∙ sym (eqb-true cell other q))
    (λ (q : eqb cell other ≡ false).
    let there : place_in cell (other ∷ others) ≡ suc (place_in cell others) = ap (λ (b : Bool). cond b 0 (suc (place_in cell others))) q in
    ap (λ p. get_or (other ∷ others) p 0) there ∙ place_found cell others (omega (arith, there)))
    (cases_Bool (eqb cell other))

-- the first chain that has a cell
record HasCell (cell : ℕ) (chains : List ChainBits) : Type 0 where
  chain : number_in cell chains < length chains
  place : place_in cell (get_or chains (number_in cell chains) no_bits).cells < length (get_or chains (number_in cell chains) no_bits).cells

-- has it where any has it
first_chain : (cell : ℕ) (chains : List ChainBits) (c i : ℕ) → c < length chains → i < length (get_or chains c no_bits).cells → get_or (get_or chains c no_bits).cells i 0 ≡ cell → HasCell cell chains
first_chain cell [] c i l m e = absurd (omega arith)
first_chain cell (chain ∷ chains) zero i l m e =
    let has : place_in cell chain.cells < length chain.cells = place_within cell chain.cells i m e in
    let here : number_in cell (chain ∷ chains) ≡ 0 = ap (λ (b : Bool). cond b 0 (suc (number_in cell chains))) (lt-ltb (place_in cell chain.cells) (length chain.cells) has) in
    record {
      chain = omega (arith, here);
      place = subst (λ (n : ℕ). place_in cell (get_or (chain ∷ chains) n no_bits).cells < length (get_or (chain ∷ chains) n no_bits).cells) (sym here) has;
    }
first_chain cell (chain ∷ chains) (suc c) i l m e =
    ⊎_elim (λ (q : ltb (place_in cell chain.cells) (length chain.cells) ≡ true).
    let here : number_in cell (chain ∷ chains) ≡ 0 = ap (λ (b : Bool). cond b 0 (suc (number_in cell chains))) q in
    let made : HasCell cell (chain ∷ chains) = record {
      chain = omega (arith, here);
      place = subst (λ (n : ℕ). place_in cell (get_or (chain ∷ chains) n no_bits).cells < length (get_or (chain ∷ chains) n no_bits).cells) (sym here) (ltb-true (place_in cell chain.cells) (length chain.cells) q);
    } in made)
    (λ (q : ltb (place_in cell chain.cells) (length chain.cells) ≡ false).
    let there : number_in cell (chain ∷ chains) ≡ suc (number_in cell chains) = ap (λ (b : Bool). cond b 0 (suc (number_in cell chains))) q in
    let rest : HasCell cell chains = first_chain cell chains c i (omega arith) m e in
    let made : HasCell cell (chain ∷ chains) = record {
      chain = omega (arith, there, rest.chain);
      place = subst (λ (n : ℕ). place_in cell (get_or (chain ∷ chains) n no_bits).cells < length (get_or (chain ∷ chains) n no_bits).cells) (sym there) rest.place;
    } in made)
    (cases_Bool (ltb (place_in cell chain.cells) (length chain.cells)))

-- a cell of the chains stands there
pub stands_there : (chains : Chains) (cell c i : ℕ) → StandsAt chains cell c i → StandsAt chains cell (chain_of chains cell) (place_of chains cell)
stands_there chains cell c i stands =
    let has : HasCell cell chains.chains = first_chain cell chains.chains c i stands.is_chain stands.is_place stands.is_there in
    record {
      is_chain = has.chain;
      is_place = has.place;
      is_there = place_found cell (chain_bits chains (chain_of chains cell)).cells has.place;
    }

-- a cell stands at one place
same_chain : (chains : Chains) (cell c i d j : ℕ) → AreChains chains → StandsAt chains cell c i → StandsAt chains cell d j → c ≡ d
same_chain chains cell c i d j good here there =
    ⊎_elim (λ (e : c ≡ d). e)
    (λ (apart : (c < d) ⊎ (d < c)).
    ⊎_elim (λ (l : c < d). absurd (chains_apart chains good c d i j l there.is_chain here.is_place there.is_place (here.is_there ∙ sym there.is_there)))
    (λ (l : d < c). absurd (chains_apart chains good d c j i l here.is_chain there.is_place here.is_place (there.is_there ∙ sym here.is_there)))
    apart)
    (cases_order c d)

same_place : (chains : Chains) (cell c i j : ℕ) → AreChains chains → StandsAt chains cell c i → StandsAt chains cell c j → i ≡ j
same_place chains cell c i j good here there =
    ⊎_elim (λ (e : i ≡ j). e)
    (λ (apart : (i < j) ⊎ (j < i)).
    ⊎_elim (λ (l : i < j). absurd (chain_apart chains good c here.is_chain i j l there.is_place (here.is_there ∙ sym there.is_there)))
    (λ (l : j < i). absurd (chain_apart chains good c here.is_chain j i l here.is_place (there.is_there ∙ sym here.is_there)))
    apart)
    (cases_order i j)

pub chain_is_of : (chains : Chains) (cell c i : ℕ) → AreChains chains → StandsAt chains cell c i → chain_of chains cell ≡ c
chain_is_of chains cell c i good stands = same_chain chains cell (chain_of chains cell) (place_of chains cell) c i good (stands_there chains cell c i stands) stands

pub place_is_of : (chains : Chains) (cell c i : ℕ) → AreChains chains → StandsAt chains cell c i → place_of chains cell ≡ i
place_is_of chains cell c i good stands =
    same_place chains cell c (place_of chains cell) i good
    (subst (λ (n : ℕ). StandsAt chains cell n (place_of chains cell)) (chain_is_of chains cell c i good stands) (stands_there chains cell c i stands)) stands
