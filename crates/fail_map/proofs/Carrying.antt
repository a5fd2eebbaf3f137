-- A cell comes out at one place of each set of chains.
use Rattle.std.proofs.Common.{◌≡◌, ℕ, ◌+◌, ◌-◌, ◌<◌, List, length, refl, sym, ap, ◌∙◌, arith, get_or, subst}
use Rattle.std.specs.Prelude.{◌↔◌}
use Rattle.stil_types.specs.declared.statement.ScanCall.{ScanCall}
use Rattle.stil_tester.specs.declared.symbol.Symbol.{Symbol}
use Rattle.stil_tester.specs.declared.chains.Chains.{Chains}
use Rattle.stil_tester.specs.Shifting.{AreChains, HasCells, no_bits}
use Rattle.stil_tester.specs.declared.chains.ChainBits.{ChainBits}
use Rattle.std.proofs.lemmas.List.{get_or_default}
use Rattle.retarget.specs.Places.{chain_bits, bits_at, StandsAt, chain_of, place_of}
use Rattle.retarget.specs.Judging.{exit_of, IsAccepted}
use Rattle.retarget.specs.Retargeting.{HaveSameCells}
use Rattle.retarget.proofs.SameMeaning.{cell_within}
use Rattle.retarget.proofs.Placed.{at_home, few_chains, few_bits}
use Rattle.retarget.proofs.Standing.{chain_is_of, place_is_of}
use Rattle.fail_map.specs.declared.line.LogLine.{LogLine}
use Rattle.fail_map.specs.Fails.{Fails, IsCompared}
use Rattle.fail_map.specs.Blocks.{AreSameCalls}
use Rattle.fail_map.specs.Carried.{cell_out, old_home, carried, IsPlaceIn}
use Rattle.fail_map.proofs.Failing.{fails_alike, compared_alike, expects_in_chain}
use Rattle.fail_map.proofs.Orders.{same_line}

-- a chain and an index of the old chains, and a chain and an index of the new ones, at which one cell comes out
pub record IsOneCell (old new : Chains) (c k d l : ℕ) : Type 0 where
  pub cell : ℕ
  pub i : ℕ
  pub j : ℕ
  pub here : StandsAt old cell c i
  pub exits : exit_of old c i ≡ k
  pub there : StandsAt new cell d j
  pub comes : exit_of new d j ≡ l

pub turned : (old new : Chains) (c k d l : ℕ) → IsOneCell old new c k d l → IsOneCell new old d l c k
turned old new c k d l one = record { cell = one.cell; i = one.j; j = one.i; here = one.there; exits = one.comes; there = one.here; comes = one.exits }

-- the bit that a comparison is of
bit_there : (chains : Chains) (d l : ℕ) → d < length chains.chains → l < bits_at chains d → StandsAt chains (cell_out chains d l) d (exit_of chains d l)
bit_there chains d l is_chain within = record { is_chain = is_chain; is_place = omega (arith, within); is_there = refl }

pub bit_within : (chains : Chains) (d l : ℕ) → AreChains chains → d < length chains.chains → l < bits_at chains d → cell_out chains d l < chains.cells
bit_within chains d l good is_chain within = cell_within chains good (cell_out chains d l) d (exit_of chains d l) (bit_there chains d l is_chain within)

-- a chain and an index are numbers of 32 bits
pub chain_small : (chains : Chains) (d : ℕ) → AreChains chains → d < length chains.chains → d < chains.cells
chain_small chains d good is_chain = omega (arith, few_chains chains good, is_chain)

pub index_small : (chains : Chains) (d l : ℕ) → AreChains chains → d < length chains.chains → l < bits_at chains d → l < chains.cells
index_small chains d l good is_chain within = omega (arith, few_bits chains good d is_chain, within)

-- where its cell comes out of the old chains
pub one_cell : (old new : Chains) → HaveSameCells old new → (d l : ℕ) → d < length new.chains → l < bits_at new d → IsOneCell old new (old_home old new d l).chain (old_home old new d l).exit d l
one_cell old new same d l is_chain within =
    let there : StandsAt new (cell_out new d l) d (exit_of new d l) = bit_there new d l is_chain within in
    let inside : cell_out new d l < old.cells = omega (arith, cell_within new same.new_chains (cell_out new d l) d (exit_of new d l) there, same.cells) in
    record {
      cell = cell_out new d l;
      i = place_of old (cell_out new d l);
      j = exit_of new d l;
      here = at_home old (cell_out new d l) same.old_chains inside;
      exits = refl;
      there = there;
      comes = omega (arith, within);
    }

pub turned_cells : (old new : Chains) → HaveSameCells old new → HaveSameCells new old
turned_cells old new same = record { old_chains = same.new_chains; new_chains = same.old_chains; chains = sym same.chains; cells = sym same.cells }

-- at one place of the old chains one cell comes out, which stands at one place of the new ones
place_back : (n i k : ℕ) → i < n → n - 1 - i ≡ k → i ≡ n - 1 - k
place_back n i k l e = omega (arith, l, e)

one_bit : (old new : Chains) (c k d l e m : ℕ) (p : IsOneCell old new c k d l) (q : IsOneCell old new c k e m) → p.cell ≡ q.cell
one_bit old new c k d l e m p q =
    sym p.here.is_there
    ∙ ap (λ i. get_or (chain_bits old c).cells i 0) (place_back (bits_at old c) p.i k p.here.is_place p.exits ∙ sym (place_back (bits_at old c) q.i k q.here.is_place q.exits))
    ∙ q.here.is_there

pub one_new : (old new : Chains) → AreChains new → (c k d l e m : ℕ) → IsOneCell old new c k d l → IsOneCell old new c k e m → (d ≡ e) × (l ≡ m)
one_new old new good c k d l e m p q =
    let cells : p.cell ≡ q.cell = one_bit old new c k d l e m p q in
    let chains : d ≡ e = sym (chain_is_of new p.cell d p.j good p.there) ∙ ap (chain_of new) cells ∙ chain_is_of new q.cell e q.j good q.there in
    let places : p.j ≡ q.j = sym (place_is_of new p.cell d p.j good p.there) ∙ ap (place_of new) cells ∙ place_is_of new q.cell e q.j good q.there in
    (chains, sym p.comes ∙ (λ t. exit_of new (chains t) (places t)) ∙ q.comes)

pub one_old : (old new : Chains) → AreChains old → (c k d l e m : ℕ) → IsOneCell old new c k d l → IsOneCell old new e m d l → (c ≡ e) × (k ≡ m)
one_old old new good c k d l e m p q = one_new new old good d l c k e m (turned old new c k d l p) (turned old new e m d l q)

-- the cells of a chain, read from rows
pub read_cells : (chains new : Chains) (rows : List ChainBits) (x : ChainBits) (bits : List ℕ) (chain : ℕ) → chains ≡ new → rows ≡ chains.chains → chain < length new.chains → bits ≡ (get_or rows chain x).cells → bits ≡ (chain_bits new chain).cells
read_cells chains new rows x bits chain e f l g =
    let same : rows ≡ new.chains = f ∙ ap (λ (q : Chains). q.chains) e in
    g ∙ ap (λ (ch : ChainBits). ch.cells) (get_or_default rows chain x no_bits (omega (arith, ap length same, l)) ∙ ap (λ q. get_or q chain no_bits) same)

-- ---- fails

-- one comparison isn't met exactly where the other isn't
pub fails_there : (old new : Chains) (a b : ScanCall) → HaveSameCells old new → AreSameCalls old new a b → (c k d l : ℕ) → IsOneCell old new c k d l
    → (qs : List Symbol) → HasCells old qs → Fails old qs a c k ↔ Fails new qs b d l
fails_there old new a b cells same c k d l one qs room =
    let both = fails_alike old new a b cells same qs room one.cell c one.i d one.j one.here one.there in (
      λ f. subst (λ (n : ℕ). Fails new qs b d n) one.comes (both.0 (subst (λ (n : ℕ). Fails old qs a c n) (sym one.exits) f)),
      λ f. subst (λ (n : ℕ). Fails old qs a c n) one.exits (both.1 (subst (λ (n : ℕ). Fails new qs b d n) (sym one.comes) f)),
    )

pub compared_there : (old new : Chains) (a b : ScanCall) → HaveSameCells old new → AreSameCalls old new a b → (c k d l : ℕ) → IsOneCell old new c k d l → IsCompared new b d l → IsCompared old a c k
compared_there old new a b cells same c k d l one compared =
    subst (λ (n : ℕ). IsCompared old a c n) one.exits
    (compared_alike old new a b cells same one.cell c one.i d one.j one.here one.there (subst (λ (n : ℕ). IsCompared new b d n) (sym one.comes) compared))

-- ---- lines

-- a line of the old patterns and one of the new ones name the same scan call and one cell
pub record IsOneLine (old new : Chains) (a b : LogLine) : Type 0 where
  pub pattern : a.pattern ≡ b.pattern
  pub scan : a.scan ≡ b.scan
  pub c : ℕ
  pub d : ℕ
  pub chain : a.chain ≡ c + 1
  pub other : b.chain ≡ d + 1
  pub one : IsOneCell old new c a.index d b.index

pub compared_within : (chains : Chains) (call : ScanCall) → IsAccepted chains call → (d l : ℕ) → IsCompared chains call d l → l < bits_at chains d
compared_within chains call accepted d l compared = expects_in_chain chains call accepted d l compared.is_chain compared.expects

-- the line that a line is carried back to
pub carried_line : (old new : Chains) (call : ScanCall) (b : LogLine) → HaveSameCells old new → IsAccepted new call → IsPlaceIn new call b → IsOneLine old new (carried old new b) b
carried_line old new call b same accepted place =
    let at : b.chain - 1 ≡ place.chain = omega (arith, place.chain_is) in
    let one : IsOneCell old new (old_home old new place.chain b.index).chain (old_home old new place.chain b.index).exit place.chain b.index
    = one_cell old new same place.chain b.index place.compared.is_chain (compared_within new call accepted place.chain b.index place.compared) in
    record {
      pattern = refl;
      scan = refl;
      c = (old_home old new (b.chain - 1) b.index).chain;
      d = place.chain;
      chain = refl;
      other = place.chain_is;
      one = subst (λ (n : ℕ). IsOneCell old new (old_home old new n b.index).chain (old_home old new n b.index).exit place.chain b.index) (sym at) one;
    }

-- lines of the new patterns that name one line of the old ones are one, and the other way round
pub lines_new : (old new : Chains) → AreChains new → (a b b' : LogLine) → IsOneLine old new a b → IsOneLine old new a b' → b ≡ b'
lines_new old new good a b b' p q =
    let c : p.c ≡ q.c = omega (arith, p.chain, q.chain) in
    let both = one_new old new good q.c a.index p.d b.index q.d b'.index (subst (λ (n : ℕ). IsOneCell old new n a.index p.d b.index) c p.one) q.one in
    same_line b b' (sym p.pattern ∙ q.pattern) (sym p.scan ∙ q.scan) (p.other ∙ ap (λ n. n + 1) both.0 ∙ sym q.other) both.1

pub lines_old : (old new : Chains) → AreChains old → (a a' b : LogLine) → IsOneLine old new a b → IsOneLine old new a' b → a ≡ a'
lines_old old new good a a' b p q =
    let d : p.d ≡ q.d = omega (arith, p.other, q.other) in
    let both = one_old old new good p.c a.index q.d b.index q.c a'.index (subst (λ (n : ℕ). IsOneCell old new p.c a.index n b.index) d p.one) q.one in
    same_line a a' (p.pattern ∙ sym q.pattern) (p.scan ∙ sym q.scan) (p.chain ∙ ap (λ n. n + 1) both.0 ∙ sym q.chain) both.1
