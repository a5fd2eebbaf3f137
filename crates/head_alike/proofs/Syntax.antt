-- Statements that stay have no fault of form, where they had none.
use Rattle.std.proofs.Common.{◌≡◌, ℕ, zero, suc, Bool, true, false, ◌&&◌, ◌||◌, not, cond, inl, inr, List, [], ◌∷◌, ◌++◌, map, codes, is_some, Option, Some, None, refl, sym, ap, ◌∙◌, subst}
use Rattle.std.specs.List.{flat_map, list_any, AllByRecursion as Each}
use Rattle.std.specs.Str.{bytes_eq}
use Rattle.std.proofs.lemmas.Bool.{cases_Bool, true≢false}
use Rattle.token_forms.specs.Tokens.{Token}
use Rattle.stil_types.specs.declared.head.Callee.{Callee}
use Rattle.stil_syntax.specs.Shapes.{behind_labels}
use Rattle.stil_blocks.specs.declared.callee.ReadCallee.{ReadCallee}
use Rattle.stil_blocks.specs.Statements.{start_of, is_whole, is_worded, has_word, behind_word, opens_maybe_named, statements_in}
use Rattle.stil_blocks.specs.Callees.{callee_at}
use Rattle.list_laws.specs.Leasts.{place_if}
use Rattle.stil_head.specs.Faults.{ends_or_opens, begins_stil, is_stil, is_unread, open_places, callee_faults, item_places, block_faults, is_read, is_bad, statement_faults}
use Rattle.head_alike.specs.Steps.{Step, Keep, Anew, olds, news, AreSteps}
use Rattle.head_alike.specs.Heads.{IsKept}
use Rattle.head_alike.proofs.Statements.{whole_same, worded_same, has_same}
use Rattle.head_alike.proofs.Empties.{place_both, flat_both}
use Rattle.head_alike.proofs.Plain.{IsPlain, later, Rest, behind_plain, Inner, inner_plain, IsSteady, rest_steady, maybe_steady, labels_plain, told, callee_same}

-- STIL 1.0
begins_steady : IsSteady begins_stil begins_stil
begins_steady [] are = refl
begins_steady (Keep t u ∷ []) are = refl
begins_steady (Keep t u ∷ Keep v w ∷ []) are = refl
begins_steady (Keep t u ∷ Keep v w ∷ Keep x y ∷ s) are =
    ap (λ (k : List ℕ). bytes_eq k (codes "STIL") && (bytes_eq v.text (codes "1.0") && ends_or_opens x.text)) are.0
    ∙ ap (λ (k : List ℕ). bytes_eq u.text (codes "STIL") && (bytes_eq k (codes "1.0") && ends_or_opens x.text)) are.2.0
    ∙ ap (λ (k : List ℕ). bytes_eq u.text (codes "STIL") && (bytes_eq w.text (codes "1.0") && ends_or_opens k)) are.2.2.0
begins_steady (Keep t u ∷ Keep v w ∷ Anew x y xs ys c d ∷ s) are = absurd (true≢false (sym are.2.2.0.allowed))
begins_steady (Keep t u ∷ Anew x y xs ys c d ∷ s) are = absurd (true≢false (sym are.2.0.allowed))
begins_steady (Anew x y xs ys c d ∷ s) are = absurd (true≢false (sym are.0.allowed))

pub stil_steady : IsSteady is_stil is_stil
unfolding is_stil
stil_steady s are = rest_steady begins_stil begins_stil begins_steady _ _ (labels_plain s are)

pub unread_same : (allow : Bool) (s : List Step) → AreSteps allow true s → is_unread (olds s) ≡ is_unread (news s)
unfolding is_unread
unread_same allow s are =
    ap (λ (b : Bool). not (b && is_worded (olds s))) (whole_same allow true s are) ∙ ap (λ (b : Bool). not (is_whole (news s) && b)) (worded_same allow s are)

pub read_same : (allow : Bool) (s : List Step) → AreSteps allow true s → is_read (olds s) ≡ is_read (news s)
unfolding is_read
read_same allow s are =
    ap (λ (b : Bool). b || (has_word (codes "Procedures") (olds s) || has_word (codes "MacroDefs") (olds s))) (has_same allow s are (codes "ScanStructures"))
    ∙ ap (λ (b : Bool). has_word (codes "ScanStructures") (news s) || (b || has_word (codes "MacroDefs") (olds s))) (has_same allow s are (codes "Procedures"))
    ∙ ap (λ (b : Bool). has_word (codes "ScanStructures") (news s) || (has_word (codes "Procedures") (news s) || b)) (has_same allow s are (codes "MacroDefs"))

bad_steady : IsSteady is_bad is_bad
unfolding is_bad
bad_steady s are =
    ap (λ (b : Bool). b || (is_read (olds s) && not (opens_maybe_named (behind_word (olds s))))) (unread_same false s are)
    ∙ ap (λ (b : Bool). is_unread (news s) || (b && not (opens_maybe_named (behind_word (olds s))))) (read_same false s are)
    ∙ ap (λ (b : Bool). is_unread (news s) || (is_read (news s) && not b)) (rest_steady opens_maybe_named opens_maybe_named maybe_steady _ _ (behind_plain s are))

-- what is there of an answer with its place and of one without
told_some : (o : Option ReadCallee) → is_some o ≡ is_some (told o)
told_some None = refl
told_some (Some c) = refl

pub if_two : (b c : Bool) (xs ys us vs : List ℕ) → b ≡ c → (b ≡ true → xs ≡ [] → us ≡ []) → (b ≡ false → ys ≡ [] → vs ≡ []) → cond b xs ys ≡ [] → cond c us vs ≡ []
if_two true c xs ys us vs same f g e = ap (λ (k : Bool). cond k us vs) (sym same) ∙ f refl e
if_two false c xs ys us vs same f g e = ap (λ (k : Bool). cond k us vs) (sym same) ∙ g refl e

open_both : (old new : List (List Token)) → Inner old new → open_places old ≡ [] → open_places new ≡ []
open_both old new k e =
    ap open_places k.new_is ∙ flat_both IsPlain (λ s. place_if (not (is_whole s)) (start_of s)) (λ s. place_if (not (is_whole s)) (start_of s))
    (λ r are. place_both _ _ (start_of (olds r)) (start_of (news r)) (ap not (whole_same false true r are))) k.rows k.each (sym (ap open_places k.old_is) ∙ e)

callee_both : (s : List Step) → IsPlain s → callee_faults (olds s) ≡ [] → callee_faults (news s) ≡ []
unfolding callee_faults
callee_both s are e =
    if_two (is_some (callee_at (olds s))) (is_some (callee_at (news s))) _ (start_of (olds s) ∷ []) _ (start_of (news s) ∷ [])
    (told_some (callee_at (olds s)) ∙ ap is_some (callee_same s are) ∙ sym (told_some (callee_at (news s))))
    (λ b e. open_both _ _ (inner_plain s are) e) (λ b e. absurd cc) e

callees_both : (old new : List (List Token)) → Inner old new → flat_map callee_faults old ≡ [] → flat_map callee_faults new ≡ []
callees_both old new k e = ap (flat_map callee_faults) k.new_is ∙ flat_both IsPlain callee_faults callee_faults callee_both k.rows k.each (sym (ap (flat_map callee_faults) k.old_is) ∙ e)

block_both : (text text' : List ℕ) (s : List Step) → IsKept s → block_faults text (olds s) ≡ [] → block_faults text' (news s) ≡ []
unfolding block_faults
block_both text text' s k e =
    let same = ap (λ (b : Bool). b || has_word (codes "MacroDefs") (olds s)) (has_same false s k.plain (codes "Procedures")) ∙ ap (λ (b : Bool). has_word (codes "Procedures") (news s) || b) (has_same false s k.plain (codes "MacroDefs")) in
    if_two (has_word (codes "ScanStructures") (olds s)) (has_word (codes "ScanStructures") (news s)) _ _ _ _ (has_same false s k.plain (codes "ScanStructures"))
    (λ b e. absurd (true≢false (sym b ∙ k.other)))
    (λ b e. if_two _ _ _ [] _ [] same (λ b e. callees_both _ _ (inner_plain s k.plain) e) (λ b e. refl) e) e

pub kept_faults : (text text' : List ℕ) (s : List Step) → IsKept s → statement_faults text (olds s) ≡ [] → statement_faults text' (news s) ≡ []
unfolding statement_faults
kept_faults text text' s k e =
    if_two (is_bad (olds s)) (is_bad (news s)) (start_of (olds s) ∷ []) _ (start_of (news s) ∷ []) _ (bad_steady s k.plain) (λ b e. absurd cc) (λ b e. block_both text text' s k e) e
