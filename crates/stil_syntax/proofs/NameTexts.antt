-- A name in two pieces beside bytes.
use Rattle.std.proofs.Common.{◌≡◌, ◌≤◌, ℕ, Bool, true, false, ◌&&◌, not, nat_eq, cond, List, [], ◌∷◌, ◌++◌, length, take, drop, refl, sym, ap, ◌∙◌, arith}
use Rattle.std.specs.Prelude.{◌==◌}
use Rattle.std.proofs.lemmas.List.{append-nil}
use Rattle.std.specs.List.{list_any}
use Rattle.std.specs.Str.{bytes_eq}
use Rattle.std.proofs.lemmas.Bool.{or_parts}
use Rattle.base_types.specs.Names.{plain_name}

both-both : (p q r : Bool) → (p && (q && r)) ≡ ((p && q) && r)
both-both true q r = refl
both-both false q r = refl

pub pieces : (f b x : List ℕ) → length f ≤ length x → bytes_eq (f ++ b) x ≡ (bytes_eq f (take (length f) x) && bytes_eq b (drop (length f) x))
pieces [] b x h = refl
pieces (a ∷ f) b [] h = absurd (omega arith)
pieces (a ∷ f) b (c ∷ x) h = ap (λ r. nat_eq a c && r) (pieces f b x (omega arith)) ∙ both-both (nat_eq a c) _ _

-- where the first piece is that of the bytes, the second decides
pub pieces_then : (f b x u v : List ℕ) (r s : Bool) → length f ≤ length x → u ≡ take (length f) x → v ≡ drop (length f) x → r ≡ bytes_eq f u → s ≡ bytes_eq b v → r ≡ true → s ≡ bytes_eq (f ++ b) x
pieces_then f b x u v r s h p q e g t = sym (pieces f b x h ∙ rw (← p, ← q, ← e, ← g, t) refl)

pub pieces_else : (f b x u : List ℕ) (r : Bool) → length f ≤ length x → u ≡ take (length f) x → r ≡ bytes_eq f u → r ≡ false → r ≡ bytes_eq (f ++ b) x
pieces_else f b x u r h p e t = t ∙ sym (pieces f b x h ∙ rw (← p, ← e, t) refl)

-- a name without a backslash is plain
kept : (t : Bool) (b : ℕ) (bs : List ℕ) → t ≡ false → cond (not t) (b ∷ bs) bs ≡ b ∷ bs
kept true b bs e = absurd cc
kept false b bs e = refl

no_backslash : (bs : List ℕ) → list_any (λ b. b == 92) bs ≡ false → bs ≡ plain_name bs
no_backslash [] e = refl
no_backslash (b ∷ bs) e =
    let parts = or_parts (b == 92) (list_any (λ b. b == 92) bs) e in
    sym (kept (b == 92) b (plain_name bs) (parts.0) ∙ ap (λ (xs : List ℕ). b ∷ xs) (sym (no_backslash bs (parts.1))))

pub plain_front : (f b : List ℕ) → length b ≡ 0 → list_any (λ x. x == 92) f ≡ false → f ≡ plain_name (f ++ b)
plain_front f [] l e = no_backslash f e ∙ ap plain_name (sym (append-nil f))
plain_front f (x ∷ b) l e = absurd (omega arith)
