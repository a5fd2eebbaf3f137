-- Walks over the tokens of a block for a statement that passes a test, a token more.
use Rattle.std.proofs.Common.{◌≡◌, ℕ, ◌<◌, Bool, true, false, ◌||◌, ◌&&◌, List, [], ◌∷◌, length, drop, refl, sym, ap, ◌∙◌, arith}
use Rattle.token_forms.specs.Tokens.{Token}
use Rattle.stil_syntax.specs.Shapes.{begins_behind}
use Rattle.stil_blocks.specs.Statements.{first_text}
use Rattle.stil_blocks.specs.Callees.{holds}

pub no_tokens : (ts : List Token) → length ts ≡ 0 → ts ≡ []
no_tokens [] e = refl
no_tokens (t ∷ ts) e = absurd (omega arith)

pub holds_next : (test : List Token → Bool) (b : Bool) (ts : List Token) → 0 < length ts → holds test b ts ≡ ((b && test ts) || holds test (begins_behind (first_text ts)) (drop 1 ts))
holds_next test b [] some = absurd (omega arith)
holds_next test b (t ∷ ts) some = refl

pub walk_holds : (test : List Token → Bool) (b next x : Bool) (ts rest : List Token) (text : List ℕ) (total : Bool) → 0 < length ts → x ≡ (b && test ts) → x ≡ false → text ≡ first_text ts
    → rest ≡ drop 1 ts → next ≡ begins_behind text → holds test b ts ≡ total
    → holds test next rest ≡ total
walk_holds test b next x ts rest text total some is other first left begins e =
    rw (begins, left, first) (ap (λ (k : Bool). k || holds test (begins_behind (first_text ts)) (drop 1 ts)) (sym other ∙ is) ∙ sym (holds_next test b ts some) ∙ e)

pub found_holds : (test : List Token → Bool) (b x : Bool) (ts : List Token) (total : Bool) → 0 < length ts → x ≡ (b && test ts) → x ≡ true → holds test b ts ≡ total → true ≡ total
found_holds test b x ts total some is sure e =
    ap (λ (k : Bool). k || holds test (begins_behind (first_text ts)) (drop 1 ts)) (sym sure ∙ is) ∙ sym (holds_next test b ts some) ∙ e

pub none_holds : (test : List Token → Bool) (b : Bool) (ts : List Token) (total : Bool) → length ts ≡ 0 → holds test b ts ≡ total → false ≡ total
none_holds test b ts total none e = ap (holds test b) (sym (no_tokens ts none)) ∙ e
