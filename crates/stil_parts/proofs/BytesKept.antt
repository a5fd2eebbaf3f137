-- None of a text's bytes is lost.
use Rattle.std.proofs.Common.{◌≡◌, ℕ, zero, suc, ◌+◌, ◌-◌, ◌<◌, Bool, true, false, cond, List, [], ◌∷◌, ◌++◌, length, drop, take, map, Option, Some, None, refl, sym, ap, ◌∙◌, arith, append_assoc, inl, inr}
use Rattle.std.specs.Prelude.{nat_lt}
use Rattle.std.specs.List.{flat_map}
use Rattle.std.proofs.lemmas.Bool.{cases_Bool, ltb-true, lt-ltb}
use Rattle.std.proofs.lemmas.List.{append-nil, take-append-drop}
use Rattle.base_types.specs.declared.kind.Kind.TheVariants.{PatternSyntax, StatementSize}
use Rattle.stil_parts.specs.declared.gap.Place.{Place}
use Rattle.stil_parts.specs.declared.gap.Place.TheVariants.{Top, Pattern}
use Rattle.stil_parts.specs.declared.gap.Gap.{Gap}
use Rattle.stil_parts.specs.declared.gap.Point.{Point}
use Rattle.stil_parts.specs.declared.part.PartFault.{PartFault}
use Rattle.stil_parts.specs.declared.part.Part.{Part}
use Rattle.stil_parts.specs.declared.part.Part.TheVariants.{Passes, Opens, Whole}
use Rattle.stil_parts.specs.Gaps.{gap_at}
use Rattle.stil_parts.specs.Parts.{part_at, part_len}
use Rattle.stil_parts.specs.Coming.{Event, Byte, Opened, Judge, Coming, Turn, fault_at, Refused, Taken, before, stopped, ending, most, largest, gap_turn, sized, judged, part_events, part_turn, open_turn, turn_in, next_turn, to_come}
use Rattle.stil_parts.specs.Laws.{bytes_of, BytesLaw}
use Rattle.stil_parts.proofs.PartStable.{part-some}
use Rattle.stil_parts.proofs.Turns.{turn-gap, turn-none}

bytes-append : (es fs : List Event) → flat_map bytes_of (es ++ fs) ≡ flat_map bytes_of es ++ flat_map bytes_of fs
bytes-append [] fs = refl
bytes-append (e ∷ es) fs = ap (λ (x : List ℕ). bytes_of e ++ x) (bytes-append es fs) ∙ sym (append_assoc (bytes_of e) (flat_map bytes_of es) (flat_map bytes_of fs))

gap-bytes : (text : List ℕ) (es : List Event) → flat_map bytes_of es ≡ [] → flat_map bytes_of (map Byte text ++ es) ≡ text
gap-bytes [] es e = e
gap-bytes (b ∷ bs) es e = ap (λ (x : List ℕ). b ∷ x) (gap-bytes bs es e)

events-bytes : (text : List ℕ) → flat_map bytes_of (map Byte text) ≡ text
events-bytes [] = refl
events-bytes (b ∷ bs) = ap (λ (x : List ℕ). b ∷ x) (events-bytes bs)

part-bytes : (p : Point) (part : Part) (text : List ℕ) → flat_map bytes_of (part_events p part text) ≡ text
part-bytes p (Passes n) text = events-bytes text
part-bytes p (Opens n) text = gap-bytes text (Opened text p ∷ []) refl
part-bytes p (Whole n) text = append-nil text

-- a turn stands for the bytes that it takes
abbrev Keeps : List ℕ → Turn → Type 0
Keeps x (Refused f) = Unit {0}
Keeps x (Taken n es q) = (0 < n) × (flat_map bytes_of es ≡ take n x)

record IsKept (x : List ℕ) (t : Turn) : Type 0 where
  is : Keeps x t

cond_kept : (x : List ℕ) (b : Bool) (t u : Turn) → IsKept x t → IsKept x u → IsKept x (cond b t u)
cond_kept x true t u h k = h
cond_kept x false t u h k = k

refused_kept : (x : List ℕ) (f : PartFault) → IsKept x (Refused f)
refused_kept x f = record { is = tt }

gap-kept : (p : Point) (x : List ℕ) (g : Gap) → 0 < g.len → IsKept x (gap_turn p x g)
gap-kept p x g some = cond_kept x (nat_lt most (p.given + g.len)) _ _ (refused_kept x _) (record { is = (some, events-bytes (take g.len x)) })

sized-kept : (p : Point) (x : List ℕ) (n : ℕ) (t : Turn) → IsKept x t → IsKept x (sized p n t)
sized-kept p x n t h = cond_kept x (nat_lt largest n) _ _ (refused_kept x _) (cond_kept x (nat_lt most (p.given + n)) _ _ (refused_kept x _) h)

judged-kept : (p : Point) (x : List ℕ) (part : Part) (q : Point) (o : Option PartFault) → 0 < part_len part → IsKept x (judged o (part_len part) (part_events p part (take (part_len part) x)) q)
judged-kept p x part q None some = record { is = (some, part-bytes p part (take (part_len part) x)) }
judged-kept p x part q (Some f) some = refused_kept x f

part-kept : (judge : Judge) (p : Point) (x : List ℕ) (part : Part) → 0 < part_len part → IsKept x (part_turn judge p x part)
part-kept judge p x part some = sized-kept p x (part_len part) _ (judged-kept p x part _ (judge p part (take (part_len part) x)) some)

module _ (judge : Judge) where
  -- a text that has bytes shows something, and it stands for its bytes
  pub record IsTurn (p : Point) (x : List ℕ) : Type 0 where
    pub turn : Turn
    pub is : next_turn judge true p x ≡ Some turn
    pub kept : Keeps x turn

  open-kept : (p : Point) (x : List ℕ) → 0 < length x → (t : Turn) × (open_turn true p x ≡ Some t) × Keeps x t
  open-kept p x some = elim (cases_Bool (nat_lt largest (length x))) [
    | inl e ↦ (Refused (fault_at StatementSize p.line), (rw e refl), tt)
    | inr e ↦ (sized p (length x) (Refused (fault_at PatternSyntax p.line)), (rw (e, lt-ltb 0 (length x) some) refl), (sized-kept p x (length x) (Refused (fault_at PatternSyntax p.line)) (refused_kept x _)).is)
  ]

  turn-as : (p : Point) (x : List ℕ) (o : Option Part) → part_at true p.place x ≡ o → 0 < length x → (t : Turn) × (turn_in judge true p x o ≡ Some t) × Keeps x t
  turn-as p x None e some = open-kept p x some
  turn-as p x (Some part) e some = (part_turn judge p x part, refl, (part-kept judge p x part (part-some true p.place x part e)).is)

  turn-of : (p : Point) (x : List ℕ) → 0 < length x → IsTurn p x
  turn-of p x some = elim (cases_Bool (nat_lt 0 (gap_at p.place p.comment x).len)) [
    | inl g ↦ record { turn = gap_turn p x (gap_at p.place p.comment x); is = turn-gap judge true p x g; kept = (gap-kept p x (gap_at p.place p.comment x) (ltb-true 0 _ g)).is }
    | inr g ↦ (let t = turn-as p x (part_at true p.place x) refl some in record { turn = t.0; is = turn-none judge true p x g ∙ t.1; kept = t.2 })
  ]

  abbrev Loses : Point → ℕ → List ℕ → Type 0
  Loses p n x = (to_come judge p n x).fault ≡ None → flat_map bytes_of (to_come judge p n x).events ≡ drop n x

  ends-kept : (place : Place) (n : ℕ) → (ending place).fault ≡ None → flat_map bytes_of (ending place).events ≡ drop n []
  ends-kept Top zero e = refl
  ends-kept Top (suc n) e = refl
  ends-kept (Pattern line) n e = absurd (cc)

  come-turn : (p : Point) (b : ℕ) (bs : List ℕ) (t : Turn) → next_turn judge true p (b ∷ bs) ≡ Some t → to_come judge p 0 (b ∷ bs) ≡ elim t [ Refused f ↦ stopped f | Taken n es q ↦ before es (to_come judge q (n - 1) bs) ]
  unfolding to_come
  come-turn p b bs t e = rw (e, to_come) refl

  joined : (n b : ℕ) (bs : List ℕ) → 0 < n → take n (b ∷ bs) ++ drop (n - 1) bs ≡ b ∷ bs
  joined zero b bs some = absurd (omega arith)
  joined (suc n) b bs some = let k : suc n - 1 ≡ n = omega arith in rw k (ap (λ (x : List ℕ). b ∷ x) (take-append-drop n bs))

  turn-kept : (b : ℕ) (bs : List ℕ) (t : Turn) → Keeps (b ∷ bs) t → ((q : Point) (n : ℕ) → Loses q n bs)
      → let c : Coming = elim t [ Refused f ↦ stopped f | Taken n es q ↦ before es (to_come judge q (n - 1) bs) ] in c.fault ≡ None → flat_map bytes_of c.events ≡ b ∷ bs
  turn-kept b bs (Refused f) k more e = absurd (cc)
  turn-kept b bs (Taken n es q) k more e =
      bytes-append es (to_come judge q (n - 1) bs).events ∙ ap (λ (x : List ℕ). x ++ flat_map bytes_of (to_come judge q (n - 1) bs).events) k.1
      ∙ ap (λ (x : List ℕ). take n (b ∷ bs) ++ x) (more q (n - 1) e) ∙ joined n b bs k.0

  come-empty : (p : Point) (n : ℕ) → to_come judge p n [] ≡ ending p.place
  unfolding to_come
  come-empty p zero = refl
  come-empty p (suc n) = refl

  come-more : (p : Point) (n b : ℕ) (bs : List ℕ) → to_come judge p (suc n) (b ∷ bs) ≡ to_come judge p n bs
  unfolding to_come
  come-more p n b bs = refl

  loses-none : (p : Point) (n : ℕ) (x : List ℕ) → Loses p n x
  loses-none p n [] e =
      let c = come-empty p n in
      ap (λ (d : Coming). flat_map bytes_of d.events) c ∙ ends-kept p.place n (ap (λ (d : Coming). d.fault) (sym c) ∙ e)
  loses-none p (suc n) (b ∷ bs) e =
      let c = come-more p n b bs in
      ap (λ (d : Coming). flat_map bytes_of d.events) c ∙ loses-none p n bs (ap (λ (d : Coming). d.fault) (sym c) ∙ e)
  loses-none p zero (b ∷ bs) e =
      let t = turn-of p (b ∷ bs) (omega arith) in
      let c = come-turn p b bs t.turn t.is in
      ap (λ (d : Coming). flat_map bytes_of d.events) c
      ∙ turn-kept b bs t.turn t.kept (λ q n. loses-none q n bs) (ap (λ (d : Coming). d.fault) (sym c) ∙ e)

pub bytes_law : BytesLaw
bytes_law judge p text e = loses-none judge p 0 text e
