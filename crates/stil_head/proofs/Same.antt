-- Equal tests of names find the same.
use Rattle.std.proofs.Common.{◌≡◌, ℕ, Bool, true, ◌||◌, ◌&&◌, cond, List, [], ◌∷◌, ◌++◌, Option, Some, None, refl, sym, ap, ◌∙◌}
use Rattle.std.specs.List.{flat_map}
use Rattle.std.specs.Prelude.{codes}
use Rattle.base_types.specs.Names.{plain_name}
use Rattle.token_forms.specs.Tokens.{Token}
use Rattle.stil_syntax.specs.Names.{name_at}
use Rattle.stil_syntax.specs.Shapes.{begins_behind, in_block}
use Rattle.stil_blocks.specs.declared.chain.ReadChain.{ReadChain}
use Rattle.stil_blocks.specs.declared.callee.ReadCallee.{ReadCallee}
use Rattle.list_laws.specs.Leasts.{place_if, lesser, least_of}
use Rattle.list_laws.proofs.Leasts.{least_append}
use Rattle.stil_blocks.specs.Statements.{has_word, behind_word, statements_in}
use Rattle.stil_blocks.specs.Callees.{holds_shift}
use Rattle.stil_head.specs.Unsupported.{name_passes, names_one, calls_scan, is_barred, places_at, scan_places, body_places, callee_places, unlisted_places, structures_again, is_name_of, scan_names, out_length_places, unsupported_in}

pub same_flat : {X : Type 0} (f g : X → List ℕ) → ((x : X) → f x ≡ g x) → (xs : List X) → flat_map f xs ≡ flat_map g xs
same_flat f g same [] = refl
same_flat f g same (x ∷ xs) = ap (λ (l : List ℕ). l ++ flat_map f xs) (same x) ∙ ap (λ (l : List ℕ). g x ++ l) (same_flat f g same xs)

same_places : (f g : List Token → Bool) → ((ts : List Token) → f ts ≡ g ts) → (b : Bool) (ts : List Token) → places_at f b ts ≡ places_at g b ts
same_places f g same b [] = refl
same_places f g same b (t ∷ ts) =
    ap (λ (k : Bool). place_if (b && k) t.start ++ places_at f (begins_behind t.text) ts) (same (t ∷ ts))
    ∙ ap (λ (l : List ℕ). place_if (b && g (t ∷ ts)) t.start ++ l) (same_places f g same (begins_behind t.text) ts)

same_passes : (f g : List ℕ → Bool) → ((q : List ℕ) → f q ≡ g q) → (n : Option (List ℕ × List Token)) → name_passes f n ≡ name_passes g n
same_passes f g same None = refl
same_passes f g same (Some n) = same (plain_name n.0)

module _ (f g p q : List ℕ → Bool) (first : (name : List ℕ) → f name ≡ g name) (second : (name : List ℕ) → p name ≡ q name) where
  same_calls : (ts : List Token) → calls_scan f p ts ≡ calls_scan g q ts
  unfolding calls_scan
  same_calls ts =
      ap (λ (b : Bool). (has_word (codes "Call") ts && b) || (has_word (codes "Macro") ts && names_one p (behind_word ts))) (same_passes f g first (name_at (behind_word ts)))
      ∙ ap (λ (b : Bool). (has_word (codes "Call") ts && names_one g (behind_word ts)) || (has_word (codes "Macro") ts && b)) (same_passes p q second (name_at (behind_word ts)))

  same_barred : (scan : Bool) (ts : List Token) → is_barred f p scan ts ≡ is_barred g q scan ts
  unfolding is_barred
  same_barred scan ts = ap (λ (b : Bool). has_word (codes "MatchLoop") ts || (has_word (codes "Goto") ts || ((scan && has_word (codes "ScanChain") ts) || b))) (same_calls ts)

  same_body : (body : List Token) → body_places f p body ≡ body_places g q body
  unfolding body_places
  same_body body =
      ap (λ (l : List ℕ). l ++ cond (holds_shift body) (scan_places body) [])
      (same_places (is_barred f p (holds_shift body)) (is_barred g q (holds_shift body)) (same_barred (holds_shift body)) true body)

  same_callees : (s : List Token) → callee_places f p s ≡ callee_places g q s
  unfolding callee_places
  same_callees s =
      ap (λ (l : List ℕ). cond (has_word (codes "Procedures") s || has_word (codes "MacroDefs") s) l [])
      (same_flat (λ c. body_places f p (in_block c)) (λ c. body_places g q (in_block c)) (λ c. same_body (in_block c)) (statements_in s))

  pub same_blocks : (ss : List (List Token)) → flat_map (callee_places f p) ss ≡ flat_map (callee_places g q) ss
  same_blocks ss = same_flat (callee_places f p) (callee_places g q) same_callees ss

-- the least of all places, where the names of the scan procedures and macros are kept as sets
pub all_places : (f p : List ℕ → Bool) (chains : List ReadChain) (procedures macros : List ReadCallee) (ss : List (List Token)) (a b d e : Option ℕ)
    → ((q : List ℕ) → f q ≡ is_name_of (scan_names procedures) q) → ((q : List ℕ) → p q ≡ is_name_of (scan_names macros) q)
    → a ≡ least_of (out_length_places chains) → b ≡ least_of (unlisted_places ss) → d ≡ least_of (structures_again ss) → e ≡ least_of (flat_map (callee_places f p) ss)
    → lesser a (lesser b (lesser d e)) ≡ least_of (unsupported_in chains procedures macros ss)
all_places f p chains procedures macros ss a b d e first second x y z w =
    let g = is_name_of (scan_names procedures) in
    let q = is_name_of (scan_names macros) in
    let blocks = flat_map (callee_places g q) ss in
    let e_is : e ≡ least_of blocks = w ∙ ap least_of (same_blocks f g p q first second ss) in
    let joined : least_of (out_length_places chains ++ (unlisted_places ss ++ (structures_again ss ++ blocks))) ≡ lesser (least_of (out_length_places chains)) (lesser (least_of (unlisted_places ss)) (lesser (least_of (structures_again ss)) (least_of blocks))) =
    least_append (out_length_places chains) (unlisted_places ss ++ (structures_again ss ++ blocks))
    ∙ ap (lesser (least_of (out_length_places chains))) (least_append (unlisted_places ss) (structures_again ss ++ blocks) ∙ ap (lesser (least_of (unlisted_places ss))) (least_append (structures_again ss) blocks)) in
    rw (x, y, z, e_is) (sym joined)
