-- The tokens of a text in which runs of pieces are written anew.
use Rattle.std.specs.Prelude.{⊤}
use Rattle.std.proofs.Common.{◌≡◌, ℕ, zero, suc, ◌+◌, ◌-◌, ◌<◌, ◌≤◌, Bool, true, false, cond, eqb, ◌&&◌, ◌||◌, not, inl, inr, List, [], ◌∷◌, ◌++◌, length, take, drop, refl, sym, ap, ◌∙◌, subst, arith, append_assoc, length-append}
use Rattle.std.specs.List.{prefix_len, AllByRecursion as Each}
use Rattle.std.proofs.lemmas.Bool.{cases_Bool, true≢false, eqb-true, eq-eqb}
use Rattle.std.proofs.lemmas.List.{append-nil}
use Rattle.token_forms.specs.declared.piece.Piece.{Piece}
use Rattle.token_forms.specs.declared.piece.Piece.TheVariants.{Blank, Token as token}
use Rattle.token_forms.specs.Classes.{is_among}
use Rattle.token_forms.specs.Pieces.{piece_len, tokens_from}
use Rattle.token_forms.specs.Tokens.{Token, tokens_of}
use Rattle.stil_tokens.specs.StilSplit.{goes_on}
use Rattle.stil_tokens.specs.StilTokens.{is_run, piece_at, tokens_in}
use Rattle.head_alike.specs.Steps.{Step, Keep, Anew, olds, news, AreSteps, AreFree, meets, starts_behind, changed_words}
use Rattle.head_text.specs.Mixes.{bytes_in, piece_for, AreLaid, one_token, laid, Mix, Stay, Change, old_pieces, new_pieces, token_of_bytes, steps, AreFreePieces, IsReady, AreReady, AreTokensBeside, MixLaw}
use Rattle.head_alike.proofs.Words.{changed}
use Rattle.head_text.proofs.Pieces.{piece_stays}
use Rattle.head_text.proofs.Lays.{laid_is}

-- pieces behind pieces
pub bytes_append : (ps qs : List (Bool × List ℕ)) → bytes_in (ps ++ qs) ≡ bytes_in ps ++ bytes_in qs
bytes_append [] qs = refl
bytes_append (p ∷ ps) qs = ap (λ (l : List ℕ). p.1 ++ l) (bytes_append ps qs) ∙ sym (append_assoc p.1 (bytes_in ps) (bytes_in qs))

pub laid_append : (at : ℕ) (ps qs : List (Bool × List ℕ)) → laid at (ps ++ qs) ≡ laid at ps ++ laid (at + length (bytes_in ps)) qs
laid_append at [] qs = let e : at ≡ at + 0 = omega arith in ap (λ (n : ℕ). laid n qs) e
laid_append at (p ∷ ps) qs =
    let e : at + length p.1 + length (bytes_in ps) ≡ at + length (p.1 ++ bytes_in ps) = omega (arith, length-append p.1 (bytes_in ps)) in
    ap (λ (l : List Token). one_token p.0 p.1 at ++ l) (laid_append (at + length p.1) ps qs ∙ ap (λ (n : ℕ). laid (at + length p.1) ps ++ laid n qs) e)
    ∙ sym (append_assoc (one_token p.0 p.1 at) (laid (at + length p.1) ps) (laid (at + length (p.1 ++ bytes_in ps)) qs))

pub are_append : (z : List ℕ) (ps qs : List (Bool × List ℕ)) → AreLaid (bytes_in qs ++ z) ps → AreLaid z qs → AreLaid z (ps ++ qs)
are_append z [] qs a b = b
are_append z (p ∷ ps) qs a b =
    let e : bytes_in ps ++ (bytes_in qs ++ z) ≡ bytes_in (ps ++ qs) ++ z = sym (append_assoc (bytes_in ps) (bytes_in qs) z) ∙ ap (λ (l : List ℕ). l ++ z) (sym (bytes_append ps qs)) in
    (a.0, ap (λ (l : List ℕ). piece_at (p.1 ++ l)) (sym e) ∙ a.1, are_append z ps qs a.2 b)

pub are_behind : (z : List ℕ) (ps qs : List (Bool × List ℕ)) → AreLaid z (ps ++ qs) → AreLaid z qs
are_behind z [] qs a = a
are_behind z (p ∷ ps) qs a = are_behind z ps qs a.2

-- none of the pieces is empty
abbrev pub AreSome : List (Bool × List ℕ) → Type 0
AreSome [] = ⊤
AreSome (p ∷ ps) = (0 < length p.1) × AreSome ps

pub some_laid : (z : List ℕ) (ps : List (Bool × List ℕ)) → AreLaid z ps → AreSome ps
some_laid z [] are = tt
some_laid z (p ∷ ps) are = (are.0, some_laid z ps are.2)

pub some_behind : (ps qs : List (Bool × List ℕ)) → AreSome (ps ++ qs) → AreSome qs
some_behind [] qs some = some
some_behind (p ∷ ps) qs some = some_behind ps qs some.1

-- the tokens
pub old_laid : (at to : ℕ) (m : List Mix) → laid at (old_pieces m) ≡ olds (steps at to m)
old_laid at to [] = refl
old_laid at to (Stay true w ∷ m) = ap (λ (l : List Token). token_of_bytes w at ∷ l) (old_laid (at + length w) (to + length w) m)
old_laid at to (Stay false w ∷ m) = old_laid (at + length w) (to + length w) m
old_laid at to (Change w os ns ∷ m) =
    ap (λ (l : List Token). token_of_bytes w at ∷ l)
    (laid_append (at + length w) os ((true, 59 ∷ []) ∷ old_pieces m)
    ∙ ap (λ (l : List Token). laid (at + length w) os ++ token_of_bytes (59 ∷ []) (at + length w + length (bytes_in os)) ∷ l) (old_laid (at + length w + length (bytes_in os) + 1) (to + length w + length (bytes_in ns) + 1) m))

pub new_laid : (at to : ℕ) (m : List Mix) → laid to (new_pieces m) ≡ news (steps at to m)
new_laid at to [] = refl
new_laid at to (Stay true w ∷ m) = ap (λ (l : List Token). token_of_bytes w to ∷ l) (new_laid (at + length w) (to + length w) m)
new_laid at to (Stay false w ∷ m) = new_laid (at + length w) (to + length w) m
new_laid at to (Change w os ns ∷ m) =
    ap (λ (l : List Token). token_of_bytes w to ∷ l)
    (laid_append (to + length w) ns ((true, 59 ∷ []) ∷ new_pieces m)
    ∙ ap (λ (l : List Token). laid (to + length w) ns ++ token_of_bytes (59 ∷ []) (to + length w + length (bytes_in ns)) ∷ l) (new_laid (at + length w + length (bytes_in os) + 1) (to + length w + length (bytes_in ns) + 1) m))

nothing_left : (text : List ℕ) (at : ℕ) (ts : List Token) → ts ++ tokens_of text (tokens_from piece_at at 0 []) ≡ ts
unfolding tokens_from
nothing_left text at ts = append-nil ts

pub tokens_laid : (ps : List (Bool × List ℕ)) → AreLaid [] ps → tokens_in (bytes_in ps) ≡ laid 0 ps
tokens_laid ps are =
    let k = laid_is [] 0 ps [] refl are in
    let e : bytes_in ps ++ [] ≡ bytes_in ps = append-nil (bytes_in ps) in
    ap tokens_in (sym e) ∙ k ∙ nothing_left (bytes_in ps ++ []) (0 + length (bytes_in ps)) (laid 0 ps)

-- the written pieces stand
semicolon_piece : (z : List ℕ) → piece_at (59 ∷ z) ≡ token 1
unfolding piece_at
semicolon_piece z = refl

pub run_ends : (z : List ℕ) → goes_on z ≡ false → prefix_len is_run z ≡ 0
run_ends [] e = refl
run_ends (b ∷ z) e = ap (λ (k : Bool). cond k (1 + prefix_len is_run z) 0) e

pub word_piece : (w z : List ℕ) → is_among changed_words w ≡ true → goes_on z ≡ false → piece_at (w ++ z) ≡ token (length w)
unfolding piece_at
word_piece w z which e = changed (λ w. piece_at (w ++ z) ≡ token (length w)) (rw (run_ends z e) refl) (rw (run_ends z e) refl) (rw (run_ends z e) refl) w which

pub goes_front : (x z : List ℕ) → goes_on (x ++ 59 ∷ []) ≡ false → goes_on (x ++ 59 ∷ z) ≡ false
goes_front [] z e = refl
goes_front (b ∷ x) z e = e

-- a piece that stays, before what begins with the same piece
pub stay_before : (w v y z : List ℕ) (t : Bool) → 0 < length v → piece_at (w ++ (v ++ y)) ≡ piece_for t (length w) → piece_at (w ++ (v ++ z)) ≡ piece_for t (length w)
stay_before w v y z t some is =
    let a = append_assoc w v y in
    let b = append_assoc w v z in
    let here : piece_at ((w ++ v) ++ y) ≡ piece_for t (length w) = ap piece_at a ∙ is in
    let n : piece_len (piece_at ((w ++ v) ++ y)) ≡ length w = ap piece_len here ∙ len_for t (length w) in
    let short : piece_len (piece_at ((w ++ v) ++ y)) < length (w ++ v) = omega (arith, n, length-append w v) in
    ap piece_at (sym b) ∙ piece_stays (w ++ v) y z short ∙ here
  where
    len_for : (t : Bool) (n : ℕ) → piece_len (piece_for t n) ≡ n
    len_for true n = refl
    len_for false n = refl

stay_next : (w : List ℕ) (t : Bool) (m : List Mix) → AreLaid [] (old_pieces m) → piece_at (w ++ (bytes_in (old_pieces m) ++ [])) ≡ piece_for t (length w) → piece_at (w ++ (bytes_in (new_pieces m) ++ [])) ≡ piece_for t (length w)
stay_next w t [] are is = is
stay_next w t (Stay k v ∷ m) are is =
    let a = append_assoc v (bytes_in (old_pieces m)) [] in
    let b = append_assoc v (bytes_in (new_pieces m)) [] in
    ap (λ (l : List ℕ). piece_at (w ++ l)) b ∙ stay_before w v (bytes_in (old_pieces m) ++ []) (bytes_in (new_pieces m) ++ []) t are.0 (ap (λ (l : List ℕ). piece_at (w ++ l)) (sym a) ∙ is)
stay_next w t (Change v os ns ∷ m) are is =
    let y = bytes_in (os ++ (true, 59 ∷ []) ∷ old_pieces m) in
    let z = bytes_in (ns ++ (true, 59 ∷ []) ∷ new_pieces m) in
    let a : (v ++ y) ++ [] ≡ v ++ (y ++ []) = append_assoc v y [] in
    let b : (v ++ z) ++ [] ≡ v ++ (z ++ []) = append_assoc v z [] in
    ap (λ (l : List ℕ). piece_at (w ++ l)) b ∙ stay_before w v (y ++ []) (z ++ []) t are.0 (ap (λ (l : List ℕ). piece_at (w ++ l)) (sym a) ∙ is)

pub new_stand : (m : List Mix) (begins : Bool) → AreLaid [] (old_pieces m) → AreReady begins m → AreLaid [] (new_pieces m)
new_stand [] begins are ready = tt
new_stand (Stay true w ∷ m) begins are ready = (are.0, stay_next w true m are.2 are.1, new_stand m (starts_behind w) are.2 ready)
new_stand (Stay false w ∷ m) begins are ready = (are.0, stay_next w false m are.2 are.1, new_stand m begins are.2 ready)
new_stand (Change w os ns ∷ m) begins are ready =
    let r = ready.1 in
    let rest = new_stand m true (are_behind [] (os ++ (true, 59 ∷ []) ∷ []) (old_pieces m) (subst (AreLaid []) (sym (append_assoc os ((true, 59 ∷ []) ∷ []) (old_pieces m))) are.2)) ready.2 in
    let z = bytes_in (new_pieces m) ++ [] in
    let inner : AreLaid [] (ns ++ (true, 59 ∷ []) ∷ new_pieces m) = are_append [] ns ((true, 59 ∷ []) ∷ new_pieces m) (r.stands z) (omega arith, semicolon_piece z, rest) in
    let cut : bytes_in (ns ++ (true, 59 ∷ []) ∷ new_pieces m) ++ [] ≡ bytes_in ns ++ 59 ∷ z = ap (λ (l : List ℕ). l ++ []) (bytes_append ns ((true, 59 ∷ []) ∷ new_pieces m)) ∙ append_assoc (bytes_in ns) (59 ∷ bytes_in (new_pieces m)) [] in
    (are.0, ap (λ (l : List ℕ). piece_at (w ++ l)) cut ∙ word_piece w (bytes_in ns ++ 59 ∷ z) r.which (goes_front (bytes_in ns) z r.stops), inner)

-- whether the next token meets one
pub free_laid : (at : ℕ) (ps : List (Bool × List ℕ)) → AreFreePieces ps → AreFree (laid at ps)
free_laid at [] free = tt
free_laid at ((true, w) ∷ ps) free = (free.0 refl, free_laid (at + length w) ps free.1)
free_laid at ((false, w) ∷ ps) free = free_laid (at + length w) ps free.1

not_equal : (a b : ℕ) → b < a → eqb a b ≡ false
not_equal a b h = elim (cases_Bool (eqb a b)) [
  | inl e ↦ (let k = eqb-true a b e in absurd (omega (arith, k)))
  | inr e ↦ e
]

far_old : (t : Token) (at to : ℕ) (m : List Mix) → t.end < at → meets t (olds (steps at to m)) ≡ false
far_old t at to [] far = refl
far_old t at to (Stay true w ∷ m) far = not_equal at t.end far
far_old t at to (Stay false w ∷ m) far = far_old t (at + length w) (to + length w) m (omega arith)
far_old t at to (Change w os ns ∷ m) far = not_equal at t.end far

far_new : (t : Token) (at to : ℕ) (m : List Mix) → t.end < to → meets t (news (steps at to m)) ≡ false
far_new t at to [] far = refl
far_new t at to (Stay true w ∷ m) far = not_equal to t.end far
far_new t at to (Stay false w ∷ m) far = far_new t (at + length w) (to + length w) m (omega arith)
far_new t at to (Change w os ns ∷ m) far = not_equal to t.end far

pub meet_both : (t u : Token) (at to : ℕ) (m : List Mix) → at ≡ t.end → to ≡ u.end → AreSome (old_pieces m) → meets t (olds (steps at to m)) ≡ meets u (news (steps at to m))
meet_both t u at to [] e f are = refl
meet_both t u at to (Stay true w ∷ m) e f are = eq-eqb at t.end e ∙ sym (eq-eqb to u.end f)
meet_both t u at to (Stay false w ∷ m) e f are =
    let some = are.0 in
    far_old t (at + length w) (to + length w) m (omega (arith, e, some)) ∙ sym (far_new u (at + length w) (to + length w) m (omega (arith, f, some)))
meet_both t u at to (Change w os ns ∷ m) e f are = eq-eqb at t.end e ∙ sym (eq-eqb to u.end f)

pub are_steps : (m : List Mix) (begins : Bool) (at to : ℕ) → AreSome (old_pieces m) → AreReady begins m → AreSteps true begins (steps at to m)
are_steps [] begins at to are ready = tt
are_steps (Stay true w ∷ m) begins at to are ready =
    (refl, meet_both (token_of_bytes w at) (token_of_bytes w to) (at + length w) (to + length w) m refl refl are.1, are_steps m (starts_behind w) (at + length w) (to + length w) are.1 ready)
are_steps (Stay false w ∷ m) begins at to are ready = are_steps m begins (at + length w) (to + length w) are.1 ready
are_steps (Change w os ns ∷ m) begins at to are ready =
    let r = ready.1 in (
      record {
        allowed = refl;
        first = ready.0;
        word = refl;
        which = r.which;
        old_free = free_laid (at + length w) os r.old_free;
        new_free = free_laid (to + length w) ns r.new_free;
        old_end = refl;
        new_end = refl;
      },
      are_steps m true (at + length w + length (bytes_in os) + 1) (to + length w + length (bytes_in ns) + 1) (some_behind os ((true, 59 ∷ []) ∷ old_pieces m) are.1).1 ready.2,
    )

pub mix_law : MixLaw
mix_law m are ready = record {
  old = tokens_laid (old_pieces m) are ∙ old_laid 0 0 m;
  new = tokens_laid (new_pieces m) (new_stand m true are ready) ∙ new_laid 0 0 m;
  are = are_steps m true 0 0 (some_laid [] (old_pieces m) are) ready;
}
