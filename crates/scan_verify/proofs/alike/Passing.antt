-- One token of a head, by where it stands.
use Rattle.std.proofs.Common.{◌≡◌, ℕ, zero, suc, ◌+◌, ◌-◌, ◌≤◌, Bool, true, false, ◌&&◌, cond, eqb, inl, inr, List, [], ◌∷◌, ◌++◌, length, take, codes, Some, refl, sym, ap, ◌∙◌, subst, arith, length-append}
use Rattle.std.specs.Str.{bytes_eq}
use Rattle.std.proofs.lemmas.Bool.{cases_Bool, true≢false}
use Rattle.std.proofs.lemmas.Slice.Eq.{bytes_eq-Decides}
use Rattle.token_forms.specs.declared.piece.Piece.{Piece}
use Rattle.token_forms.specs.declared.piece.Piece.TheVariants as pieces
use Rattle.token_forms.specs.Pieces.{piece_len, span_of, tokens_from}
use Rattle.token_forms.specs.Tokens.{Token}
use Rattle.token_forms.specs.Classes.{is_among}
use Rattle.stil_tokens.specs.StilStatements.{token_ends, len_in}
use Rattle.stil_syntax.specs.Names.{is_word, is_string, inner, name_at}
use Rattle.head_alike.specs.Steps.{changed_words}
use Rattle.head_alike.specs.Erased.{erased_from}
use Rattle.head_alike.proofs.Words.{run_word, word_free, string_free}
use Rattle.head_alike.proofs.Names.{name_word, name_string}
use Rattle.scan_verify.specs.declared.alike.standing.Standing.{Standing}
use Rattle.scan_verify.specs.declared.alike.standing.Standing.TheVariants.{Front, Name, Quoted, Structures, Other}
use Rattle.scan_verify.specs.declared.alike.standing.Passed.{Passed}
use Rattle.scan_verify.specs.Staying.{staying, behind_name, left, IsPassed}
use Rattle.scan_verify.proofs.alike.Cutting.{staying_none}
use Rattle.scan_verify.proofs.alike.NameFronts.{IsNameFront, first_kept, named_front, unnamed}

-- a text has no more tokens than bytes
one_span : (at : ℕ) (p : Piece) → length (span_of at p) ≤ 1
one_span at (pieces.Blank n) = omega arith
one_span at (pieces.Token n) = omega arith

pub spans_few : (piece_at : List ℕ → Piece) (at inside : ℕ) (bs : List ℕ) → length (tokens_from piece_at at inside bs) ≤ length bs
unfolding tokens_from
spans_few piece_at at inside [] = omega arith
spans_few piece_at at (suc inside) (b ∷ bs) = let k = spans_few piece_at (at + 1) inside bs in omega (arith, k)
spans_few piece_at at zero (b ∷ bs) =
    let rest = tokens_from piece_at (at + 1) (piece_len (piece_at (b ∷ bs)) - 1) bs in
    let k = spans_few piece_at (at + 1) (piece_len (piece_at (b ∷ bs)) - 1) bs in
    let one = one_span at (piece_at (b ∷ bs)) in
    let both = length-append (span_of at (piece_at (b ∷ bs))) rest in
    omega (arith, k, one, both)

-- at the front
word_front : (t : Token) → is_word t.text ≡ true → IsNameFront (t ∷ []) (bytes_eq t.text (codes "ScanStructures")) (is_among changed_words t.text)
word_front t w = record {
  free = (word_free t.text w, tt);
  front = λ q. ap (λ (k : Bool). t.text ∷ erased_from k (is_among changed_words t.text) q) (word_free t.text w);
  plain = λ e. ap (is_among changed_words) ((bytes_eq-Decides t.text (codes "ScanStructures")).0 e);
}

pub front_word : (t : Token) → is_word t.text ≡ true → IsPassed Front t (record { stays = true; behind = Name (bytes_eq t.text (codes "ScanStructures")) })
front_word t w ts =
    named_front (t ∷ []) (bytes_eq t.text (codes "ScanStructures")) (is_among changed_words t.text) (word_front t w) ts (t.text, name_word t (take (len_in 0 ts) ts) w, refl)

module _ (t : Token) (run : is_word t.text ≡ false) (quoted : is_string t.text ≡ true) where
  unchanged : is_among changed_words t.text ≡ false
  unchanged = elim (cases_Bool (is_among changed_words t.text)) [ inl e ↦ absurd (true≢false (sym (run_word t.text e) ∙ run)) | inr e ↦ e ]

  other_word : bytes_eq t.text (codes "ScanStructures") ≡ false
  other_word = elim (cases_Bool (bytes_eq t.text (codes "ScanStructures"))) [
    | inl e ↦ let word : is_word t.text ≡ true = ap is_word ((bytes_eq-Decides t.text (codes "ScanStructures")).0 e) in absurd (true≢false (sym word ∙ run))
    | inr e ↦ e
  ]

  erased_text : (q : List Token) → erased_from true false (t ∷ q) ≡ t.text ∷ erased_from false false q
  erased_text q = ap (λ (k : Bool). t.text ∷ erased_from k (is_among changed_words t.text) q) (string_free t.text quoted) ∙ ap (λ (k : Bool). t.text ∷ erased_from false k q) unchanged

  text_front : IsNameFront (t ∷ []) false false
  text_front = record { free = (string_free t.text quoted, tt); front = erased_text; plain = λ e. refl }

  joined_front : (u : Token) → is_word u.text ≡ true → IsNameFront (t ∷ u ∷ []) false false
  joined_front u w = record {
    free = (string_free t.text quoted, (word_free u.text w, tt));
    front = λ q. erased_text (u ∷ q) ∙ ap (λ (k : Bool). t.text ∷ u.text ∷ erased_from k false q) (word_free u.text w);
    plain = λ e. refl;
  }

  both_left : (a b : Bool) → (a && b) ≡ true → a ≡ true
  both_left true b e = refl
  both_left false b e = absurd cc

  by_next : (k : Bool) (u : Token) (us : List Token) → (is_word u.text && eqb u.start t.end) ≡ k → staying (t ∷ u ∷ us) ≡ t.text ∷ cond k (u.text ∷ behind_name false us) (behind_name false (u ∷ us))
  by_next true u us e =
      let r = take (len_in 0 us) us in
      let named : name_at (t ∷ u ∷ r) ≡ Some (inner t.text ++ u.text, r) =
      name_string t (u ∷ r) run quoted ∙ ap (λ (k : Bool). Some (cond k (inner t.text ++ u.text, r) (inner t.text, u ∷ r))) e in
      named_front (t ∷ u ∷ []) false false (joined_front u (both_left (is_word u.text) (eqb u.start t.end) e)) us (inner t.text ++ u.text, named, other_word)
  by_next false u us e =
      let n = len_in 0 (u ∷ us) in
      let k = first_kept (token_ends 0 u.text) u us refl in
      let named : name_at (t ∷ u ∷ k.0) ≡ Some (inner t.text, u ∷ k.0) =
      name_string t (u ∷ k.0) run quoted ∙ ap (λ (b : Bool). Some (cond b (inner t.text ++ u.text, k.0) (inner t.text, u ∷ k.0))) e in
      let here : name_at (t ∷ take n (u ∷ us)) ≡ Some (inner t.text, take n (u ∷ us)) = subst (λ (l : List Token). name_at (t ∷ l) ≡ Some (inner t.text, l)) (sym k.1) named in
      named_front (t ∷ []) false false text_front (u ∷ us) (inner t.text, here, other_word)

  pub front_string : IsPassed Front t (record { stays = true; behind = Quoted t.end })
  front_string [] = named_front (t ∷ []) false false text_front [] (inner t.text, name_string t [] run quoted, other_word)
  front_string (u ∷ us) = by_next (is_word u.text && eqb u.start t.end) u us refl

-- another token is no name
pub front_other : (t : Token) (p : Passed) → is_word t.text ≡ false → is_string t.text ≡ false → IsPassed (Other 0) t p → IsPassed Front t p
front_other t p run quoted h ts = unnamed t ts run quoted ∙ h ts

-- where no token is left, none stays
pub left_none : (standing : Standing) → left standing [] ≡ []
left_none Front = staying_none
left_none (Name structures) = refl
left_none (Quoted end) = refl
left_none (Structures depth begins skips) = staying_none
left_none (Other depth) = staying_none
