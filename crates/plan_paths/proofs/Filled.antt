-- The steps of a new path, as they are put behind one another.
use Rattle.std.proofs.Common.{◌≡◌, ℕ, suc, ◌+◌, ◌-◌, ◌<◌, ◌≤◌, List, [], ◌∷◌, ◌++◌, length, get_or, map, flat_map, Option, refl, sym, ap, ap₂, ◌∙◌, arith, append_assoc}
use Rattle.std.specs.Prelude.{min}
use Rattle.std.specs.List.{range_with_len}
use Rattle.std.proofs.lemmas.Option.{get_or_from_slice_get, slice_get-get_or}
use Rattle.std.proofs.lemmas.List.{map-append, append-nil}
use Rattle.std.proofs.lemmas.List.Concat.{flat_map-append}
use Rattle.std.proofs.lemmas.List.FromFn.{map-range_with_len_more}
use Rattle.chain_trace.specs.declared.path.Step.{Step}
use Rattle.chain_trace.specs.declared.path.Path.{Path}
use Rattle.chain_rules.specs.declared.unit.Rules.{Rules}
use Rattle.chain_rules.specs.declared.plan.Plan.{Plan}
use Rattle.plan_paths.specs.NewPaths.{Site, chain_on, filling, places_at, new_places, absent_path, path_in, step_in}
use Rattle.plan_paths.proofs.Arranged.{range_split}

-- one more step of a run
pub run_more : (f : Site → Step) (path first end place : ℕ) → first ≤ place → place < end
    → map f (map (λ k. (path, k)) (range_with_len first (min (place + 1) end - first))) ≡ map f (map (λ k. (path, k)) (range_with_len first (min place end - first))) ++ f (path, place) ∷ []
run_more f path first end place le lt =
    let a : min (place + 1) end - first ≡ (place - first) + 1 = omega (arith, le, lt) in
    let b : min place end - first ≡ place - first = omega (arith, le, lt) in
    let at : first + (place - first) ≡ place = omega (arith, le) in
    ap (λ (n : ℕ). map f (map (λ k. (path, k)) (range_with_len first n))) a
    ∙ ap (map f) (map-range_with_len_more (λ k. (path, k)) first (place - first) place at)
    ∙ map-append f (map (λ k. (path, k)) (range_with_len first (place - first))) ((path, place) ∷ [])
    ∙ ap (λ (n : ℕ). map f (map (λ k. (path, k)) (range_with_len first n)) ++ f (path, place) ∷ []) (sym b)

-- a whole run
pub run_whole : (f : Site → Step) (path first end place : ℕ) → end ≤ place
    → map f (map (λ k. (path, k)) (range_with_len first (min place end - first))) ≡ map f (map (λ k. (path, k)) (range_with_len first (end - first)))
run_whole f path first end place le =
    let a : min place end - first ≡ end - first = omega (arith, le) in
    ap (λ (n : ℕ). map f (map (λ k. (path, k)) (range_with_len first n))) a

range_more : (n : ℕ) → range_with_len 0 (n + 1) ≡ range_with_len 0 n ++ n ∷ []
range_more n =
    let a : n + 1 ≡ n + suc 0 = omega arith in
    let b : 0 + n ≡ n = omega arith in
    ap (range_with_len 0) a ∙ range_split 0 n 0 ∙ ap (λ (k : ℕ). range_with_len 0 n ++ k ∷ []) b

-- what fills one more place
pub places_more : (f : Site → Step) (rules : Rules) (plan : Plan) (path place : ℕ) (chain : Option ℕ) → chain ≡ chain_on rules path place
    → map f (new_places rules plan path place) ++ map f (filling rules plan path place chain) ≡ map f (new_places rules plan path (place + 1))
places_more f rules plan path place chain is =
    sym (map-append f (new_places rules plan path place) (filling rules plan path place chain))
    ∙ ap (map f)
    (ap (λ (o : Option ℕ). new_places rules plan path place ++ filling rules plan path place o) is
    ∙ ap (λ (xs : List Site). new_places rules plan path place ++ xs) (sym (append-nil (places_at rules plan path place)))
    ∙ sym (flat_map-append (places_at rules plan path) (range_with_len 0 place) (place ∷ []))
    ∙ ap (flat_map (places_at rules plan path)) (sym (range_more place)))

-- the path of a number
pub path_is : (paths : List Path) (k : ℕ) (path : Path) → k < length paths → path ≡ get_or paths k path → path ≡ path_in paths k
path_is paths k path lt is = is ∙ sym (get_or_from_slice_get paths k (get_or paths k path) absent_path (slice_get-get_or paths k path lt))
