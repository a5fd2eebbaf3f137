-- The least of lists of places that stand one behind the other.
use Rattle.std.proofs.Common.{◌≡◌, ℕ, Bool, true, cond, List, [], ◌++◌, Option, sym, ap, ◌∙◌}
use Rattle.token_forms.specs.Tokens.{Token}
use Rattle.list_laws.specs.Leasts.{lesser, least_of}
use Rattle.stil_blocks.specs.Callees.{holds_shift}
use Rattle.stil_head.specs.Unsupported.{places_at, is_barred, scan_places, body_places}
use Rattle.list_laws.proofs.Leasts.{least_append}

pub two_places : (ps qs : List ℕ) (a b : Option ℕ) → a ≡ least_of ps → b ≡ least_of qs → lesser a b ≡ least_of (ps ++ qs)
two_places ps qs a b x y = ap (λ (o : Option ℕ). lesser o b) x ∙ ap (lesser (least_of ps)) y ∙ sym (least_append ps qs)

-- in the block of a procedure or macro that scans
pub body_scan : (f p : List ℕ → Bool) (body : List Token) (scan : Bool) (a b : Option ℕ) → scan ≡ holds_shift body → scan ≡ true → a ≡ least_of (places_at (is_barred f p scan) true body) → b ≡ least_of (scan_places body)
    → lesser a b ≡ least_of (body_places f p body)
unfolding body_places
body_scan f p body scan a b is sure x y =
    let holding : holds_shift body ≡ true = sym is ∙ sure in
    two_places (places_at (is_barred f p (holds_shift body)) true body) (cond (holds_shift body) (scan_places body) []) a b
    (x ∙ ap (λ (s : Bool). least_of (places_at (is_barred f p s) true body)) is)
    (y ∙ ap (λ (s : Bool). least_of (cond s (scan_places body) [])) (sym holding))
