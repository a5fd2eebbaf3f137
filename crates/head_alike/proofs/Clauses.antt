-- A statement in a ScanChain says anew what is declared.
use Rattle.std.specs.Prelude.{⊤}
use Rattle.std.proofs.Common.{◌≡◌, ℕ, zero, suc, ◌+◌, ◌<◌, ◌≤◌, Bool, true, false, ◌&&◌, ◌||◌, not, cond, ◌⊎◌, inl, inr, List, [], ◌∷◌, ◌++◌, length, drop, codes, is_some, Option, Some, None, refl, sym, ap, ◌∙◌, subst, arith, length-append}
use Rattle.std.specs.Str.{bytes_eq}
use Rattle.std.proofs.lemmas.Bool.{cases_Bool, true≢false}
use Rattle.std.proofs.lemmas.Slice.Eq.{bytes_eq-Decides}
use Rattle.base_types.specs.Names.{plain_name}
use Rattle.base_types.specs.declared.span.Span.{Span}
use Rattle.token_forms.specs.Tokens.{Token}
use Rattle.token_forms.specs.Classes.{is_among}
use Rattle.token_forms.specs.Parsing.{◌>>=◌}
use Rattle.stil_tokens.specs.StilStatements.{is_only}
use Rattle.stil_types.specs.declared.head.ScanChainDecl.{ScanChainDecl}
use Rattle.stil_syntax.specs.Names.{name_at}
use Rattle.stil_syntax.specs.Shapes.{behind_labels}
use Rattle.stil_blocks.specs.declared.cells.CellList.{CellList}
use Rattle.stil_blocks.specs.declared.clause.Clause.{Clause}
use Rattle.stil_blocks.specs.declared.clause.Clause.TheVariants.{Length, In, Out, Inversion, Cells, OutLength, Passed, NoForm}
use Rattle.stil_blocks.specs.Statements.{span_of, is_whole, is_end}
use Rattle.stil_blocks.specs.Chains.{length_of, length_at, bit_of, inversion_at, cells_at, cells_span, sole_name, port_at, clause_by, word_clause, unlabelled_clause, clause_of}
use Rattle.head_alike.specs.Steps.{Step, Keep, Anew, olds, news, AreSteps, starts_behind, changed_words}
use Rattle.head_alike.specs.Chains.{IsNewLength, IsTurned, IsOtherClause, IsTurnedRow, StaysLaw, SaidLaw, LengthLaw, InversionLaw}
use Rattle.head_alike.proofs.Words.{word_free, changed}
use Rattle.head_alike.proofs.Names.{Names, NoName, Named, Front, names, old_length, behind_both}
use Rattle.head_alike.proofs.Statements.{whole_same}
use Rattle.head_alike.proofs.Trees.{old_append}

pub end_none : (xs : List Token) (c : Token) (ts : List Token) (t : Token) → is_end (t ∷ (xs ++ c ∷ ts)) ≡ false
end_none [] c ts t = refl
end_none (x ∷ xs) c ts t = refl

end_two : (s : List Step) (t u a b : Token) → is_end (t ∷ olds (Keep a b ∷ s)) ≡ is_end (u ∷ news (Keep a b ∷ s))
end_two s t u a b = refl

end_same : (begins : Bool) (s : List Step) → AreSteps true begins s → is_end (olds s) ≡ is_end (news s)
end_same begins [] are = refl
end_same begins (Keep t u ∷ []) are = ap (is_only 59) are.0
end_same begins (Keep t u ∷ Keep a b ∷ s) are = refl
end_same begins (Keep t u ∷ Anew a b xs ys c d ∷ s) are = refl
end_same begins (Anew t u xs ys c d ∷ s) are = end_none xs c (olds s) t ∙ sym (end_none ys d (news s) u)

port_same : (s : List Step) → AreSteps true false s → port_at (olds s) ≡ port_at (news s)
port_same s are = ap (λ (o : Option (List ℕ)). o >>= λ name. Some (plain_name name)) (elim (names true false s are) as (λ k. sole_name (name_at (olds s)) ≡ sole_name (name_at (news s))) [
  | NoName e f ↦ ap sole_name e ∙ sym (ap sole_name f)
  | Named x r e f rest short fr cut ↦ ap sole_name e ∙ ap (λ (b : Bool). cond b (Some x) None) (end_same false r rest) ∙ sym (ap sole_name f)
  | Front t u xs ys c d r is e f ↦ absurd (true≢false (sym is.first))
])

none_of : (a b c : Bool) → (a || (b || (c || false))) ≡ false → (a ≡ false) × (b ≡ false) × (c ≡ false)
none_of false false false e = (refl, refl, refl)
none_of false false true e = absurd cc
none_of false true c e = absurd cc
none_of true b c e = absurd cc

-- a statement of another word, by whether it has these words
abbrev other_clause : Bool → Bool → Bool → Option (List ℕ) → Clause
other_clause i o l port = cond i (clause_by In port) (cond o (clause_by Out port) (cond l OutLength Passed))

other_is : (t : Token) (ts : List Token) → is_among changed_words t.text ≡ false
    → word_clause t ts ≡ other_clause (bytes_eq t.text (codes "ScanIn")) (bytes_eq t.text (codes "ScanOut")) (bytes_eq t.text (codes "ScanOutLength")) (port_at ts)
other_is t ts e =
    let n = none_of (bytes_eq t.text (codes "ScanLength")) (bytes_eq t.text (codes "ScanInversion")) (bytes_eq t.text (codes "ScanCells")) e in
    let a = n.0 in
    let b = n.1 in
    let c = n.2 in
    rw (a, b, c) refl

-- what a statement says, by its word
pub data WordIs (t : Token) (ts : List Token) (c : Clause) : Type 0 where
  IsLength : t.text ≡ codes "ScanLength" → (v : ℕ × Span) → length_at ts ≡ Some v → c ≡ Length v.0 v.1 → WordIs t ts c
  IsInversion : t.text ≡ codes "ScanInversion" → (v : Bool × Span) → inversion_at ts ≡ Some v → c ≡ Inversion v.0 v.1 → WordIs t ts c
  IsCells : t.text ≡ codes "ScanCells" → (v : CellList × ℕ) → cells_at ts ≡ Some v → c ≡ Cells v.0 (cells_span t v.1) → WordIs t ts c
  IsOther : is_among changed_words t.text ≡ false → IsOtherClause c → WordIs t ts c
  IsBad : c ≡ NoForm → WordIs t ts c

module _ (t : Token) (ts : List Token) where
  by_length : t.text ≡ codes "ScanLength" → (o : Option (ℕ × Span)) → length_at ts ≡ o → WordIs t ts (clause_by (λ (n : ℕ × Span). Length n.0 n.1) o)
  by_length is None e = IsBad refl
  by_length is (Some v) e = IsLength is v e refl

  by_inversion : t.text ≡ codes "ScanInversion" → (o : Option (Bool × Span)) → inversion_at ts ≡ o → WordIs t ts (clause_by (λ (n : Bool × Span). Inversion n.0 n.1) o)
  by_inversion is None e = IsBad refl
  by_inversion is (Some v) e = IsInversion is v e refl

  by_cells : t.text ≡ codes "ScanCells" → (o : Option (CellList × ℕ)) → cells_at ts ≡ o → WordIs t ts (clause_by (λ (n : CellList × ℕ). Cells n.0 (cells_span t n.1)) o)
  by_cells is None e = IsBad refl
  by_cells is (Some v) e = IsCells is v e refl

  by_other : is_among changed_words t.text ≡ false → (i o l : Bool) (port : Option (List ℕ)) → WordIs t ts (other_clause i o l port)
  by_other k true o l None = IsBad refl
  by_other k true o l (Some p) = IsOther k tt
  by_other k false true l None = IsBad refl
  by_other k false true l (Some p) = IsOther k tt
  by_other k false false true port = IsOther k tt
  by_other k false false false port = IsOther k tt

  pub as_length : t.text ≡ codes "ScanLength" → word_clause t ts ≡ clause_by (λ (n : ℕ × Span). Length n.0 n.1) (length_at ts)
  as_length e = rw e refl

  pub as_inversion : t.text ≡ codes "ScanInversion" → word_clause t ts ≡ clause_by (λ (n : Bool × Span). Inversion n.0 n.1) (inversion_at ts)
  as_inversion e = rw e refl

  pub as_cells : t.text ≡ codes "ScanCells" → word_clause t ts ≡ clause_by (λ (n : CellList × ℕ). Cells n.0 (cells_span t n.1)) (cells_at ts)
  as_cells e = rw e refl

  pub word_cases : WordIs t ts (word_clause t ts)
  word_cases = elim (cases_Bool (is_among changed_words t.text)) [
    | inl k ↦ changed (λ (w : List ℕ). t.text ≡ w → WordIs t ts (word_clause t ts))
        (λ e. subst (WordIs t ts) (sym (as_length e)) (by_length e (length_at ts) refl))
        (λ e. subst (WordIs t ts) (sym (as_inversion e)) (by_inversion e (inversion_at ts) refl))
        (λ e. subst (WordIs t ts) (sym (as_cells e)) (by_cells e (cells_at ts) refl)) t.text k refl
    | inr k ↦ subst (WordIs t ts) (sym (other_is t ts k)) (by_other k (bytes_eq t.text (codes "ScanIn")) (bytes_eq t.text (codes "ScanOut")) (bytes_eq t.text (codes "ScanOutLength")) (port_at ts))
  ]

module _ (new : ScanChainDecl) where
  other_turned : (i o l : Bool) (port : Option (List ℕ)) → IsTurned new (other_clause i o l port) (other_clause i o l port)
  other_turned true o l None = refl
  other_turned true o l (Some p) = refl
  other_turned false true l None = refl
  other_turned false true l (Some p) = refl
  other_turned false false true port = refl
  other_turned false false false port = refl

  kept_clause : (t u : Token) (s : List Step) → is_among changed_words t.text ≡ false → t.text ≡ u.text → AreSteps true false s → IsTurned new (word_clause t (olds s)) (word_clause u (news s))
  kept_clause t u s e same are =
      let a = other_is t (olds s) e in
      let b = other_is u (news s) (ap (is_among changed_words) (sym same) ∙ e) in
      let words = ap (λ (w : List ℕ). other_clause (bytes_eq w (codes "ScanIn")) (bytes_eq w (codes "ScanOut")) (bytes_eq w (codes "ScanOutLength")) (port_at (olds s))) same in
      let ports = ap (other_clause (bytes_eq u.text (codes "ScanIn")) (bytes_eq u.text (codes "ScanOut")) (bytes_eq u.text (codes "ScanOutLength"))) (port_same s are) in
      subst (λ (x : Clause). IsTurned new x (word_clause u (news s))) (sym (a ∙ words ∙ ports))
      (subst (λ (y : Clause). IsTurned new (other_clause (bytes_eq u.text (codes "ScanIn")) (bytes_eq u.text (codes "ScanOut")) (bytes_eq u.text (codes "ScanOutLength")) (port_at (news s))) y) (sym b)
      (other_turned (bytes_eq u.text (codes "ScanIn")) (bytes_eq u.text (codes "ScanOut")) (bytes_eq u.text (codes "ScanOutLength")) (port_at (news s))))

  no_ports : (w : List ℕ) → starts_behind w ≡ true → (bytes_eq w (codes "ScanIn") ≡ false) × (bytes_eq w (codes "ScanOut") ≡ false)
  no_ports w e = (no_word (codes "ScanIn") refl, no_word (codes "ScanOut") refl)
    where
      no_word : (v : List ℕ) → starts_behind v ≡ false → bytes_eq w v ≡ false
      no_word v free = elim (cases_Bool (bytes_eq w v)) [
        | inl h ↦ absurd (true≢false (sym e ∙ ap starts_behind ((bytes_eq-Decides w v).0 h) ∙ free))
        | inr h ↦ h
      ]

  mark_clause : (t u : Token) (s : List Step) → is_among changed_words t.text ≡ false → t.text ≡ u.text → starts_behind t.text ≡ true → IsTurned new (word_clause t (olds s)) (word_clause u (news s))
  mark_clause t u s e same starts =
      let n = no_ports t.text starts in
      let n' = no_ports u.text (ap starts_behind (sym same) ∙ starts) in
      let l = bytes_eq t.text (codes "ScanOutLength") in
      let a : word_clause t (olds s) ≡ other_clause false false l None =
      other_is t (olds s) e ∙ ap (λ (i : Bool). other_clause i (bytes_eq t.text (codes "ScanOut")) l (port_at (olds s))) n.0 ∙ ap (λ (o : Bool). other_clause false o l (port_at (olds s))) n.1 in
      let b : word_clause u (news s) ≡ other_clause false false l None =
      other_is u (news s) (ap (is_among changed_words) (sym same) ∙ e)
      ∙ ap (λ (i : Bool). other_clause i (bytes_eq u.text (codes "ScanOut")) (bytes_eq u.text (codes "ScanOutLength")) (port_at (news s))) n'.0
      ∙ ap (λ (o : Bool). other_clause false o (bytes_eq u.text (codes "ScanOutLength")) (port_at (news s))) n'.1
      ∙ ap (λ (w : List ℕ). other_clause false false (bytes_eq w (codes "ScanOutLength")) None) (sym same) in
      subst (λ (x : Clause). IsTurned new x (word_clause u (news s))) (sym a) (subst (λ (y : Clause). IsTurned new (other_clause false false l None) y) (sym b) (other_turned false false l None))

  never : (t : Token) (ts : List Token) → is_among changed_words t.text ≡ true → IsOtherClause (word_clause t ts) → ⊥
  never t ts w o = elim (word_cases t ts) [
    | IsLength is v e c ↦ subst IsOtherClause c o
    | IsInversion is v e c ↦ subst IsOtherClause c o
    | IsCells is v e c ↦ subst IsOtherClause c o
    | IsOther k p ↦ absurd (true≢false (sym w ∙ k))
    | IsBad c ↦ subst IsOtherClause c o
  ]

  rest_stays : (r : List Step) → AreSteps true true r → IsOtherClause (unlabelled_clause (olds r)) → IsTurned new (unlabelled_clause (olds r)) (unlabelled_clause (news r))
  rest_stays [] are o = refl
  rest_stays (Keep t u ∷ r) are o = elim (cases_Bool (is_among changed_words t.text)) [
    | inl w ↦ absurd (never t (olds r) w o)
    | inr w ↦ elim (cases_Bool (starts_behind t.text)) [
      | inl e ↦ mark_clause t u r w are.0 e
      | inr e ↦ kept_clause t u r w are.0 (subst (λ (b : Bool). AreSteps true b r) e are.2)
    ]
  ]
  rest_stays (Anew t u xs ys c d ∷ r) are o = absurd (never t (xs ++ c ∷ olds r) are.0.which o)

  if_stays : (b : Bool) (x y : Clause) → (IsOtherClause x → IsTurned new x y) → IsOtherClause (cond b x NoForm) → IsTurned new (cond b x NoForm) (cond b y NoForm)
  if_stays true x y f o = f o
  if_stays false x y f o = absurd o

  if_turned : (b : Bool) (x y : Clause) → IsTurned new x y → IsTurned new (cond b x NoForm) (cond b y NoForm)
  if_turned true x y h = h
  if_turned false x y h = refl

-- one that says nothing of what may change
pub stays_law : StaysLaw
unfolding clause_of
stays_law new s are other =
    let k = behind_both true s are in
    let inner : IsOtherClause (unlabelled_clause (behind_labels (olds s))) → IsTurned new (unlabelled_clause (behind_labels (olds s))) (unlabelled_clause (behind_labels (news s)))
    = λ o. subst (λ (l : List Token). IsTurned new (unlabelled_clause l) (unlabelled_clause (behind_labels (news s)))) (sym k.old)
    (subst (λ (l : List Token). IsTurned new (unlabelled_clause (olds k.rest)) (unlabelled_clause l)) (sym k.new)
    (rest_stays new k.rest k.are (subst (λ (l : List Token). IsOtherClause (unlabelled_clause l)) k.old o))) in
    subst (λ (b : Bool). IsTurned new (cond (is_whole (olds s)) (unlabelled_clause (behind_labels (olds s))) NoForm) (cond b (unlabelled_clause (behind_labels (news s))) NoForm)) (whole_same true true s are)
    (if_stays new (is_whole (olds s)) (unlabelled_clause (behind_labels (olds s))) (unlabelled_clause (behind_labels (news s))) inner other)

-- one that does
longer : (p : Step) (g q : List Step) → length (olds q) < length (olds (p ∷ (g ++ q)))
longer p g q =
    let some = old_length (p ∷ g) in
    let e = ap length (old_append (p ∷ g) q) in
    let f = length-append (olds (p ∷ g)) (olds q) in
    omega (arith, some, e, f)

suffix_same : (f g r q : List Step) → f ++ r ≡ g ++ q → length (olds r) ≡ length (olds q) → r ≡ q
suffix_same [] [] r q e l = e
suffix_same [] (p ∷ g) r q e l = absurd (let k = longer p g q in let h = ap (λ (s : List Step). length (olds s)) e in omega (arith, k, h, l))
suffix_same (p ∷ f) [] r q e l = absurd (let k = longer p f r in let h = ap (λ (s : List Step). length (olds s)) e in omega (arith, k, h, l))
suffix_same (p ∷ f) (o ∷ g) r q e l = suffix_same f g r q (ap (drop 1) e) l

pub said_law : SaidLaw
unfolding clause_of
said_law new f t u xs ys c d are behind turned =
    let s = f ++ Anew t u xs ys c d ∷ [] in
    let k = behind_both true s are in
    let same : Anew t u xs ys c d ∷ [] ≡ k.rest = suffix_same f k.front (Anew t u xs ys c d ∷ []) k.rest k.cut (ap length (sym behind ∙ k.old)) in
    let here : IsTurned new (unlabelled_clause (olds k.rest)) (unlabelled_clause (news k.rest)) = subst (λ (r : List Step). IsTurned new (unlabelled_clause (olds r)) (unlabelled_clause (news r))) same turned in
    let inner : IsTurned new (unlabelled_clause (behind_labels (olds s))) (unlabelled_clause (behind_labels (news s))) =
    subst (λ (l : List Token). IsTurned new (unlabelled_clause l) (unlabelled_clause (behind_labels (news s)))) (sym k.old)
    (subst (λ (l : List Token). IsTurned new (unlabelled_clause (olds k.rest)) (unlabelled_clause l)) (sym k.new) here) in
    subst (λ (b : Bool). IsTurned new (cond (is_whole (olds s)) (unlabelled_clause (behind_labels (olds s))) NoForm) (cond b (unlabelled_clause (behind_labels (news s))) NoForm)) (whole_same true true s are)
    (if_turned new (is_whole (olds s)) (unlabelled_clause (behind_labels (olds s))) (unlabelled_clause (behind_labels (news s))) inner)

-- ScanLength
length_is : (t x c : Token) (n : Option ℕ) → t.text ≡ codes "ScanLength" → c.text ≡ 59 ∷ [] → length_of x.text ≡ n → word_clause t (x ∷ c ∷ []) ≡ clause_by (λ (m : ℕ × Span). Length m.0 m.1) (n >>= λ m. Some (m, span_of x))
length_is t x c n e f g = rw (e, f, g) refl

pub length_law : LengthLaw
length_law new t u x y c d e e' f f' some is = by (length_of x.text) refl some
  where
    by : (o : Option ℕ) → length_of x.text ≡ o → is_some o ≡ true → IsTurned new (word_clause t (x ∷ c ∷ [])) (word_clause u (y ∷ d ∷ []))
    by None h s = absurd cc
    by (Some n) h s =
        subst (λ (k : Clause). IsTurned new k (word_clause u (y ∷ d ∷ []))) (sym (length_is t x c (Some n) e f h)) (record { place = span_of y; is = length_is u y d (Some new.length) e' f' is })

-- ScanInversion
inversion_is : (t x c : Token) (n : Option Bool) → t.text ≡ codes "ScanInversion" → c.text ≡ 59 ∷ [] → bit_of x.text ≡ n → word_clause t (x ∷ c ∷ []) ≡ clause_by (λ (m : Bool × Span). Inversion m.0 m.1) (n >>= λ m. Some (m, span_of x))
inversion_is t x c n e f g = rw (e, f, g) refl

pub inversion_law : InversionLaw
inversion_law new bit t u x y c d e e' f f' some is meant = by (bit_of x.text) refl some
  where
    by : (o : Option Bool) → bit_of x.text ≡ o → is_some o ≡ true → IsTurned new (word_clause t (x ∷ c ∷ [])) (word_clause u (y ∷ d ∷ []))
    by None h s = absurd cc
    by (Some n) h s =
        subst (λ (k : Clause). IsTurned new k (word_clause u (y ∷ d ∷ []))) (sym (inversion_is t x c (Some n) e f h)) (record { bit = bit; place = span_of y; is = inversion_is u y d (Some bit) e' f' is; meant = meant })
