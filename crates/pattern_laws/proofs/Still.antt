-- A scan call that doesn't shift stays what it is on other chains of the same ports.
use Rattle.std.proofs.Common.{◌≡◌, ℕ, zero, suc, Bool, true, false, cond, not, ◌||◌, ◌&&◌, nat_lt, max, IsTrue, List, [], ◌∷◌, get_or, Option, Some, None, refl, sym, ap, ◌∙◌, subst, arith}
use Rattle.std.specs.Str.{bytes_eq}
use Rattle.std.proofs.lemmas.Bool.{true≢false}
use Rattle.base_types.specs.declared.kind.Kind.{Kind}
use Rattle.stil_tokens.specs.StilTokens.{tokens_in}
use Rattle.stil_types.specs.Calls.{string_length, longest_string, compare_character, is_expectation, most_bits}
use Rattle.stil_types.specs.declared.head.ScanChainDecl.{ScanChainDecl}
use Rattle.stil_types.specs.declared.head.StilHead.{StilHead}
use Rattle.stil_types.specs.declared.statement.ScanCall.{ScanCall}
use Rattle.stil_types.specs.declared.statement.PatternStatement.TheVariants as statements
use Rattle.stil_syntax.specs.declared.item.Item.{Item}
use Rattle.stil_syntax.specs.declared.shape.Shape.TheVariants.{Scan}
use Rattle.stil_syntax.specs.Shapes.{shape_of}
use Rattle.stil_calls.specs.declared.judging.Judging.TheVariants.{Lengths}
use Rattle.stil_calls.specs.declared.repeats.Side.{Side}
use Rattle.stil_calls.specs.declared.repeats.Side.TheVariants.{Load, Compare}
use Rattle.stil_calls.specs.Faults.{kind_of, fault_or, shape_fault, fault_by}
use Rattle.stil_calls.specs.Scans.{gives_twice, data_for, port, given, is_port, is_foreign, is_unsound, has_unsound, shifts_in, is_short, is_long, is_vast, bits_of, written_in, strings_of, call_of}
use Rattle.stil_calls.specs.Statements.{statement_of}
use Rattle.stil_calls.proofs.Accepted.{longest-shifts}
use Rattle.stil_calls.proofs.Refusals.{long_law}
use Rattle.stil_written.specs.Written.{with_chains}
use Rattle.stil_written.proofs.Others.{shape_law}
use Rattle.pattern_laws.specs.Laws.{SamePorts, StillLaw}
use Rattle.pattern_laws.proofs.Scans.{is_scan, sound_scan}

port_same : (side : Side) (c d : ScanChainDecl) → d.scan_in ≡ c.scan_in → d.scan_out ≡ c.scan_out → port side d ≡ port side c
port_same Load c d e f = e
port_same Compare c d e f = f

module _ (items : List Item) where
  given_same : (side : Side) (c d : ScanChainDecl) → d.scan_in ≡ c.scan_in → d.scan_out ≡ c.scan_out → given side items d ≡ given side items c
  given_same side c d e f = ap (data_for items) (port_same side c d e f)

  strings_same : (side : Side) (cs ds : List ScanChainDecl) → SamePorts cs ds → strings_of side ds items ≡ strings_of side cs items
  strings_same side [] [] s = refl
  strings_same side [] (d ∷ ds) s = absurd s
  strings_same side (c ∷ cs) [] s = absurd s
  strings_same side (c ∷ cs) (d ∷ ds) s =
      ap (λ (o : Option (List ℕ)). written_in o ∷ strings_of side ds items) (given_same side c d s.0 s.1) ∙ ap (λ (l : List (Option (List ℕ))). written_in (given side items c) ∷ l) (strings_same side cs ds s.2)

  unsound_same : (cs ds : List ScanChainDecl) → SamePorts cs ds → has_unsound ds items ≡ has_unsound cs items
  unsound_same [] [] s = refl
  unsound_same [] (d ∷ ds) s = absurd s
  unsound_same (c ∷ cs) [] s = absurd s
  unsound_same (c ∷ cs) (d ∷ ds) s =
      ap (λ (o : Option (List ℕ)). (is_unsound Load o || is_unsound Compare (given Compare items d)) || has_unsound ds items) (given_same Load c d s.0 s.1)
      ∙ ap (λ (o : Option (List ℕ)). (is_unsound Load (given Load items c) || is_unsound Compare o) || has_unsound ds items) (given_same Compare c d s.0 s.1)
      ∙ ap (λ (b : Bool). (is_unsound Load (given Load items c) || is_unsound Compare (given Compare items c)) || b) (unsound_same cs ds s.2)

is_port_same : (name : List ℕ) (cs ds : List ScanChainDecl) → SamePorts cs ds → is_port ds name ≡ is_port cs name
is_port_same name [] [] s = refl
is_port_same name [] (d ∷ ds) s = absurd s
is_port_same name (c ∷ cs) [] s = absurd s
is_port_same name (c ∷ cs) (d ∷ ds) s =
    ap (λ (n : List ℕ). (bytes_eq name n || bytes_eq name d.scan_out) || is_port ds name) s.0 ∙ ap (λ (n : List ℕ). (bytes_eq name c.scan_in || bytes_eq name n) || is_port ds name) s.1
    ∙ ap (λ (b : Bool). (bytes_eq name c.scan_in || bytes_eq name c.scan_out) || b) (is_port_same name cs ds s.2)

foreign_same : (items : List Item) (cs ds : List ScanChainDecl) → SamePorts cs ds → is_foreign ds items ≡ is_foreign cs items
foreign_same [] cs ds s = refl
foreign_same (i ∷ is) cs ds s = ap (λ (b : Bool). not b || is_foreign ds is) (is_port_same i.name cs ds s) ∙ ap (λ (b : Bool). not (is_port cs i.name) || b) (foreign_same is cs ds s)

pub call_same : (items : List Item) (cs ds : List ScanChainDecl) → SamePorts cs ds → call_of ds items ≡ call_of cs items
call_same items cs ds s =
    ap (λ (l : List (Option (List ℕ))). record { shifts = max (longest_string l) (longest_string (strings_of Compare ds items)); loads = l; compares = strings_of Compare ds items }) (strings_same items Load cs ds s)
    ∙ ap (λ (l : List (Option (List ℕ))). record { shifts = max (longest_string (strings_of Load cs items)) (longest_string l); loads = strings_of Load cs items; compares = l }) (strings_same items Compare cs ds s)

-- a call without shifts compares nothing
nothing_at : (s : Option (List ℕ)) (i : ℕ) → string_length s ≡ 0 → compare_character s i ≡ 88
nothing_at None i e = refl
nothing_at (Some []) i e = refl
nothing_at (Some (b ∷ bs)) i e = absurd (omega arith)

never_compares : (ss : List (Option (List ℕ))) (k i : ℕ) → longest_string ss ≡ 0 → compare_character (get_or ss k None) i ≡ 88
never_compares [] k i e = refl
never_compares (s ∷ ss) zero i e = nothing_at s i (omega arith)
never_compares (s ∷ ss) (suc k) i e = never_compares ss k i (omega arith)

not_long : (cs : List ScanChainDecl) (items : List Item) → (call_of cs items).shifts ≡ 0 → (b : Bool) → is_long cs items ≡ b → b ≡ false
not_long cs items z false e = refl
not_long cs items z true e =
    let h = (long_law cs items).0 e in
    let none : compare_character (get_or (strings_of Compare cs items) h.chain None) h.index ≡ 88 = never_compares (strings_of Compare cs items) h.chain h.index (omega (arith, z)) in
    absurd (true≢false (sym (subst (λ (n : ℕ). IsTrue (is_expectation n)) none h.stands)))

passed : (b : Bool) (k : Kind) (more : Option Kind) → cond b (Some k) more ≡ None → (b ≡ false) × (more ≡ None)
passed true k more e = absurd cc
passed false k more e = (refl, e)

no_fault : (k : Option Kind) (line : ℕ) → fault_or k line None ≡ None → k ≡ None
no_fault None line e = refl
no_fault (Some k) line e = absurd cc

sound_kind : (head : StilHead) (line : ℕ) (text : List ℕ) (items : List Item) → shape_of head false (tokens_in text) ≡ Scan items → fault_by Lengths head line text ≡ None → kind_of Lengths head (Scan items) ≡ None
unfolding fault_by
sound_kind head line text items e k = no_fault (kind_of Lengths head (Scan items)) line (sym (ap (shape_fault Lengths head line text) e) ∙ k)

module _ (head other : StilHead) (items : List Item) (same : SamePorts head.chains other.chains) (zero_shifts : (call_of head.chains items).shifts ≡ 0) where
  pub still_kind : kind_of Lengths head (Scan items) ≡ None → kind_of Lengths other (Scan items) ≡ None
  still_kind e =
      let a = passed (gives_twice items) _ _ e in
      let b = passed (has_unsound head.chains items) _ _ a.1 in
      let c = passed (is_foreign head.chains items) _ _ b.1 in
      let calls = call_same items head.chains other.chains same in
      let z : (call_of other.chains items).shifts ≡ 0 = ap (λ (x : ScanCall). x.shifts) calls ∙ zero_shifts in
      let n : shifts_in other.chains items ≡ 0 = sym (longest-shifts other.chains items) ∙ z in
      let unsound : has_unsound other.chains items ≡ false = unsound_same items head.chains other.chains same ∙ b.0 in
      let foreign : is_foreign other.chains items ≡ false = foreign_same items head.chains other.chains same ∙ c.0 in
      let short : is_short other.chains items ≡ false = ap (λ (m : ℕ). nat_lt 0 m && nat_lt m (most_bits (bits_of other.chains))) n in
      let long : is_long other.chains items ≡ false = not_long other.chains items z (is_long other.chains items) refl in
      let vast : is_vast other.chains items ≡ false = ap (nat_lt 524288) n in
      rw (a.0, unsound, foreign, short, long, vast) refl

pub same_scan : (pattern line at : ℕ) (text : List ℕ) (call found : ScanCall) → Some (statements.Scan pattern text found at) ≡ Some (statements.Scan pattern text call line) → found ≡ call
same_scan pattern line at text call found e = cc

pub still_law : StillLaw
still_law head chains marks end old new pattern line text call s unshifted ports same =
    let other = with_chains head chains marks end in
    let found = is_scan head pattern line s.line text call (shape_of head false (tokens_in text)) s.is in
    let items = found.0 in
    let is_call : call_of head.chains items ≡ call = same_scan pattern line s.line text call (call_of head.chains items) (sym (ap (statement_of head pattern s.line text) found.1) ∙ s.is) in
    let z : (call_of head.chains items).shifts ≡ 0 = ap (λ (x : ScanCall). x.shifts) is_call ∙ unshifted in
    let shape : shape_of other false (tokens_in text) ≡ Scan items = shape_law head chains marks end false (tokens_in text) ∙ found.1 in
    let kind = still_kind head other items ports z (sound_kind head s.line text items found.1 s.sound) in
    let calls : call_of chains items ≡ call = call_same items head.chains chains ports ∙ is_call in
    record {
      begins = refl;
      whole = s.whole;
      reads = λ at. record {
        sound = sound_scan other at text items shape kind;
        statement = statements.Scan pattern text call at;
        is = ap (statement_of other pattern at text) shape ∙ ap (λ (c : ScanCall). Some (statements.Scan pattern text c at)) calls;
        pairs = record { alike = (refl, refl); shows = same };
      };
    }
