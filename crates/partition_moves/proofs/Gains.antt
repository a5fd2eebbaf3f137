-- How a plan's length changes where a unit is taken out, put in, or exchanged with another.
use Rattle.std.proofs.Common.{◌≡◌, ◌≢◌, ℕ, ◌+◌, ◌<◌, List, [], ◌∷◌, ◌++◌, length, take, drop, get_or, set, insert, remove, Option, refl, sym, ap, ◌∙◌, slice_get, arith, suc, zero, sum, subst, add-one}
use Rattle.std.proofs.lemmas.List.{length-set, take-append-drop, drop_more}
use Rattle.std.proofs.lemmas.List.Sums.{sum_by-cons}
use Rattle.base_types.specs.declared.span.Point.{Point}
use Rattle.chain_rules.specs.Legality.{chain_at, moved_plan, swapped_plan, taken_out, with_chain, replaced}
use Rattle.chain_rules.specs.declared.plan.Plan.{Plan}
use Rattle.chain_rules.proofs.Steps.{with_chain_other}
use Rattle.wire_cost.specs.declared.ends.Ends.{Ends}
use Rattle.wire_cost.specs.Lengths.{ChainEnds, chain_ends, chain_length_of, end_of, first_of, length_of, lengths_from, link_of, plan_length_of}
use Rattle.wire_cost.proofs.Walks.{entry_at, exit_at, length-walk, walk, walk-after, walk-append}
use Rattle.order_search.specs.Trials.{at}

-- a unit between what stands before it and what stands behind it
pub put_between : (w : ChainEnds) (x : Option Point) (a c : List ℕ) (u : ℕ) → walk w x (a ++ u ∷ c) + link_of (end_of w.exit x a) (first_of w.entry w.stop c) ≡ walk w x (a ++ c) + (link_of (end_of w.exit x a) (entry_at w u) + link_of (exit_at w u) (first_of w.entry w.stop c))
put_between w x a c u = omega (arith, walk-append w x a (u ∷ c) c, walk-after w (exit_at w u) c, walk-after w (end_of w.exit x a) c)

-- the two links of a unit u that stands between the first i units and those from place j on, and the one link without it
abbrev pub links_with : ChainEnds → List ℕ → ℕ → ℕ → ℕ → ℕ
links_with w us i j u = link_of (end_of w.exit w.start (take i us)) (entry_at w u) + link_of (exit_at w u) (first_of w.entry w.stop (drop j us))

abbrev pub link_without : ChainEnds → List ℕ → ℕ → ℕ → ℕ
link_without w us i j = link_of (end_of w.exit w.start (take i us)) (first_of w.entry w.stop (drop j us))

pub insertion : (w : ChainEnds) (us : List ℕ) (j u : ℕ) → length_of w (insert us j u) + link_without w us j j ≡ length_of w us + links_with w us j j u
insertion w us j u =
    omega (arith, length-walk w us, length-walk w (insert us j u), ap (walk w w.start) (sym (take-append-drop j us)), put_between w w.start (take j us) (drop j us) u)

split_at : (us : List ℕ) (i : ℕ) → i < length us → us ≡ take i us ++ get_or us i 0 ∷ drop (suc i) us
split_at us i h = sym (take-append-drop i us) ∙ ap (λ (q : List ℕ). take i us ++ q) (drop_more us i 0 h ∙ ap (λ (k : ℕ). get_or us i 0 ∷ drop k us) (add-one i))

pub removal : (w : ChainEnds) (us : List ℕ) (i : ℕ) → i < length us → length_of w us + link_without w us i (suc i) ≡ length_of w (remove us i) + links_with w us i (suc i) (get_or us i 0)
removal w us i h =
    omega (arith, length-walk w us, length-walk w (remove us i), ap (walk w w.start) (split_at us i h), put_between w w.start (take i us) (drop (suc i) us) (get_or us i 0))

set_split : (us : List ℕ) (i u : ℕ) → i < length us → set us i u ≡ take i us ++ u ∷ drop (suc i) us
set_split [] i u h = absurd (omega arith)
set_split (v ∷ us) zero u h = refl
set_split (v ∷ us) (suc i) u h = ap (λ (q : List ℕ). v ∷ q) (set_split us i u (omega arith))

pub replacement : (w : ChainEnds) (us : List ℕ) (i u : ℕ) → i < length us → length_of w us + links_with w us i (suc i) u ≡ length_of w (set us i u) + links_with w us i (suc i) (get_or us i 0)
replacement w us i u h =
    omega (arith, length-walk w us, length-walk w (set us i u), ap (walk w w.start) (split_at us i h), ap (walk w w.start) (set_split us i u h), put_between w w.start (take i us) (drop (suc i) us) (get_or us i 0), put_between w w.start (take i us) (drop (suc i) us) u)

lengths_with : (e : Ends) (b : ℕ) (xs : List (List ℕ)) (i : ℕ) (us : List ℕ) → i < length xs → sum (lengths_from e b (set xs i us)) + chain_length_of e (b + i) (get_or xs i []) ≡ sum (lengths_from e b xs) + chain_length_of e (b + i) us
lengths_with e b [] i us h = absurd (omega arith)
lengths_with e b (ws ∷ xs) zero us h =
    let z : b + 0 ≡ b = omega arith in
    omega (arith, sum_by-cons (λ x. x) (chain_length_of e b us) (lengths_from e (b + 1) xs), sum_by-cons (λ x. x) (chain_length_of e b ws) (lengths_from e (b + 1) xs), ap (λ (k : ℕ). chain_length_of e k us) z, ap (λ (k : ℕ). chain_length_of e k ws) z)
lengths_with e b (ws ∷ xs) (suc i) us h =
    let z : b + 1 + i ≡ b + suc i = omega arith in
    omega (arith, lengths_with e (b + 1) xs i us (omega arith), sum_by-cons (λ x. x) (chain_length_of e b ws) (lengths_from e (b + 1) (set xs i us)), sum_by-cons (λ x. x) (chain_length_of e b ws) (lengths_from e (b + 1) xs), ap (λ (k : ℕ). chain_length_of e k us) z, ap (λ (k : ℕ). chain_length_of e k (get_or xs i [])) z)

-- the length of a plan where one chain gets other units
pub length_with : (e : Ends) (p : Plan) (c : ℕ) (us : List ℕ) → c < length p.chains → plan_length_of e (with_chain p c us) + chain_length_of e c (chain_at p c) ≡ plan_length_of e p + chain_length_of e c us
length_with e p c us h = (let z : 0 + c ≡ c = omega arith in subst (λ (k : ℕ). plan_length_of e (with_chain p c us) + chain_length_of e k (chain_at p c) ≡ plan_length_of e p + chain_length_of e k us) z (lengths_with e 0 p.chains c us h))

-- the links of a move, by the chain of the unit and by the others of the chain that it goes to
pub moved_length : (e : Ends) (p : Plan) (c i d j : ℕ) (others : List ℕ) → c < length p.chains → i < length (chain_at p c) → d < length p.chains → others ≡ chain_at (taken_out p (at c i)) d
    → plan_length_of e (moved_plan p (at c i) (at d j)) + links_with (chain_ends e c) (chain_at p c) i (suc i) (get_or (chain_at p c) i 0) + link_without (chain_ends e d) others j j
    ≡ plan_length_of e p + link_without (chain_ends e c) (chain_at p c) i (suc i) + links_with (chain_ends e d) others j j (get_or (chain_at p c) i 0)
moved_length e p c i d j others hc hi hd eo =
    let us = chain_at p c in
    let u = get_or us i 0 in
    let q : Plan = taken_out p (at c i) in
    let lq : length q.chains ≡ length p.chains = length-set p.chains c (remove us i) in
    let one = length_with e p c (remove us i) hc in
    let two : plan_length_of e (moved_plan p (at c i) (at d j)) + chain_length_of e d (chain_at q d) ≡ plan_length_of e q + chain_length_of e d (insert (chain_at q d) j u) = length_with e q d (insert (chain_at q d) j u) (omega arith) in
    let three : plan_length_of e (moved_plan p (at c i) (at d j)) + chain_length_of e d others ≡ plan_length_of e q + chain_length_of e d (insert others j u) =
    subst (λ (x : List ℕ). plan_length_of e (moved_plan p (at c i) (at d j)) + chain_length_of e d x ≡ plan_length_of e q + chain_length_of e d (insert x j u)) (sym eo) two in
    let four = removal (chain_ends e c) us i hi in
    let five = insertion (chain_ends e d) others j u in
    omega arith

-- the links of an exchange
pub swapped_length : (e : Ends) (p : Plan) (c i d j : ℕ) → c < length p.chains → i < length (chain_at p c) → d < length p.chains → j < length (chain_at p d) → c ≢ d
    → plan_length_of e (swapped_plan p (at c i) (at d j)) + links_with (chain_ends e c) (chain_at p c) i (suc i) (get_or (chain_at p c) i 0) + links_with (chain_ends e d) (chain_at p d) j (suc j) (get_or (chain_at p d) j 0)
    ≡ plan_length_of e p + links_with (chain_ends e c) (chain_at p c) i (suc i) (get_or (chain_at p d) j 0) + links_with (chain_ends e d) (chain_at p d) j (suc j) (get_or (chain_at p c) i 0)
swapped_length e p c i d j hc hi hd hj n =
    let us = chain_at p c in
    let ws = chain_at p d in
    let u = get_or us i 0 in
    let v = get_or ws j 0 in
    let q : Plan = replaced p (at c i) v in
    let lq : length q.chains ≡ length p.chains = length-set p.chains c (set us i v) in
    let eo : chain_at q d ≡ ws = with_chain_other p c d (set us i v) (λ f. n (sym f)) in
    let one = length_with e p c (set us i v) hc in
    let two : plan_length_of e (swapped_plan p (at c i) (at d j)) + chain_length_of e d (chain_at q d) ≡ plan_length_of e q + chain_length_of e d (set (chain_at q d) j u) = length_with e q d (set (chain_at q d) j u) (omega arith) in
    let three : plan_length_of e (swapped_plan p (at c i) (at d j)) + chain_length_of e d ws ≡ plan_length_of e q + chain_length_of e d (set ws j u) =
    subst (λ (x : List ℕ). plan_length_of e (swapped_plan p (at c i) (at d j)) + chain_length_of e d x ≡ plan_length_of e q + chain_length_of e d (set x j u)) eo two in
    let four = replacement (chain_ends e c) us i v hi in
    let five = replacement (chain_ends e d) ws j u hj in
    omega arith

-- the same, from what the calls gave
pub move_links : (e : Ends) (p : Plan) (c i d j : ℕ) (us others : List ℕ) (before after left right entry exit : Option Point) (be xa ba lr le xr : ℕ) → c < length p.chains → i < length us → d < length p.chains → us ≡ chain_at p c → others ≡ chain_at (taken_out p (at c i)) d
    → before ≡ end_of (chain_ends e c).exit (chain_ends e c).start (take i us) → after ≡ first_of (chain_ends e c).entry (chain_ends e c).stop (drop (i + 1) us)
    → left ≡ end_of (chain_ends e d).exit (chain_ends e d).start (take j others) → right ≡ first_of (chain_ends e d).entry (chain_ends e d).stop (drop j others)
    → slice_get e.entry (get_or us i 0) ≡ entry → slice_get e.exit (get_or us i 0) ≡ exit
    → be ≡ link_of before entry → xa ≡ link_of exit after → ba ≡ link_of before after → lr ≡ link_of left right → le ≡ link_of left entry → xr ≡ link_of exit right
    → plan_length_of e (moved_plan p (at c i) (at d j)) + (be + xa) + lr ≡ plan_length_of e p + ba + (le + xr)
move_links e p c i d j us others before after left right entry exit be xa ba lr le xr hc hi hd eu eo eb ea el er ee ex ebe exa eba elr ele exr =
    let s : i + 1 ≡ suc i = omega arith in
    let w = chain_ends e c in
    let v = chain_ends e d in
    let u = get_or us i 0 in
    let fa : after ≡ first_of w.entry w.stop (drop (suc i) us) = ea ∙ ap (λ (n : ℕ). first_of w.entry w.stop (drop n us)) s in
    let g1 : be ≡ link_of (end_of w.exit w.start (take i us)) (entry_at w u) = ebe ∙ (λ n. link_of (eb n) (sym ee n)) in
    let g2 : xa ≡ link_of (exit_at w u) (first_of w.entry w.stop (drop (suc i) us)) = exa ∙ (λ n. link_of (sym ex n) (fa n)) in
    let g3 : ba ≡ link_without w us i (suc i) = eba ∙ (λ n. link_of (eb n) (fa n)) in
    let g4 : lr ≡ link_without v others j j = elr ∙ (λ n. link_of (el n) (er n)) in
    let g5 : le ≡ link_of (end_of v.exit v.start (take j others)) (entry_at v u) = ele ∙ (λ n. link_of (el n) (sym ee n)) in
    let g6 : xr ≡ link_of (exit_at v u) (first_of v.entry v.stop (drop j others)) = exr ∙ (λ n. link_of (sym ex n) (er n)) in
    let m : plan_length_of e (moved_plan p (at c i) (at d j)) + links_with w us i (suc i) u + link_without v others j j ≡ plan_length_of e p + link_without w us i (suc i) + links_with v others j j u =
    subst (λ (xs : List ℕ). plan_length_of e (moved_plan p (at c i) (at d j)) + links_with w xs i (suc i) (get_or xs i 0) + link_without v others j j ≡ plan_length_of e p + link_without w xs i (suc i) + links_with v others j j (get_or xs i 0)) (sym eu)
    (moved_length e p c i d j others hc (subst (λ (xs : List ℕ). i < length xs) eu hi) hd eo) in
    omega (arith, g1, g2, g3, g4, g5, g6, m)

pub swap_links : (e : Ends) (p : Plan) (c i d j : ℕ) (us ws : List ℕ) (before after left right entry exit its_entry its_exit : Option Point) (be xa li ir bi ia le xr : ℕ) → c < length p.chains → i < length us → d < length p.chains → j < length ws → c ≢ d → us ≡ chain_at p c → ws ≡ chain_at p d
    → before ≡ end_of (chain_ends e c).exit (chain_ends e c).start (take i us) → after ≡ first_of (chain_ends e c).entry (chain_ends e c).stop (drop (i + 1) us)
    → left ≡ end_of (chain_ends e d).exit (chain_ends e d).start (take j ws) → right ≡ first_of (chain_ends e d).entry (chain_ends e d).stop (drop (j + 1) ws)
    → slice_get e.entry (get_or us i 0) ≡ entry → slice_get e.exit (get_or us i 0) ≡ exit → slice_get e.entry (get_or ws j 0) ≡ its_entry → slice_get e.exit (get_or ws j 0) ≡ its_exit
    → be ≡ link_of before entry → xa ≡ link_of exit after → li ≡ link_of left its_entry → ir ≡ link_of its_exit right → bi ≡ link_of before its_entry → ia ≡ link_of its_exit after → le ≡ link_of left entry → xr ≡ link_of exit right
    → plan_length_of e (swapped_plan p (at c i) (at d j)) + (be + xa) + (li + ir) ≡ plan_length_of e p + (bi + ia) + (le + xr)
swap_links e p c i d j us ws before after left right entry exit its_entry its_exit be xa li ir bi ia le xr hc hi hd hj n eu ew eb ea el er ee ex fe fx ebe exa eli eir ebi eia ele exr =
    let s : i + 1 ≡ suc i = omega arith in
    let t : j + 1 ≡ suc j = omega arith in
    let w = chain_ends e c in
    let v = chain_ends e d in
    let a = get_or us i 0 in
    let b = get_or ws j 0 in
    let fa : after ≡ first_of w.entry w.stop (drop (suc i) us) = ea ∙ ap (λ (n : ℕ). first_of w.entry w.stop (drop n us)) s in
    let fr : right ≡ first_of v.entry v.stop (drop (suc j) ws) = er ∙ ap (λ (n : ℕ). first_of v.entry v.stop (drop n ws)) t in
    let g1 : be ≡ link_of (end_of w.exit w.start (take i us)) (entry_at w a) = ebe ∙ (λ n. link_of (eb n) (sym ee n)) in
    let g2 : xa ≡ link_of (exit_at w a) (first_of w.entry w.stop (drop (suc i) us)) = exa ∙ (λ n. link_of (sym ex n) (fa n)) in
    let g3 : li ≡ link_of (end_of v.exit v.start (take j ws)) (entry_at v b) = eli ∙ (λ n. link_of (el n) (sym fe n)) in
    let g4 : ir ≡ link_of (exit_at v b) (first_of v.entry v.stop (drop (suc j) ws)) = eir ∙ (λ n. link_of (sym fx n) (fr n)) in
    let g5 : bi ≡ link_of (end_of w.exit w.start (take i us)) (entry_at w b) = ebi ∙ (λ n. link_of (eb n) (sym fe n)) in
    let g6 : ia ≡ link_of (exit_at w b) (first_of w.entry w.stop (drop (suc i) us)) = eia ∙ (λ n. link_of (sym fx n) (fa n)) in
    let g7 : le ≡ link_of (end_of v.exit v.start (take j ws)) (entry_at v a) = ele ∙ (λ n. link_of (el n) (sym ee n)) in
    let g8 : xr ≡ link_of (exit_at v a) (first_of v.entry v.stop (drop (suc j) ws)) = exr ∙ (λ n. link_of (sym ex n) (fr n)) in
    let m = swapped_length e p c i d j hc (subst (λ (xs : List ℕ). i < length xs) eu hi) hd (subst (λ (xs : List ℕ). j < length xs) ew hj) n in
    let m1 : plan_length_of e (swapped_plan p (at c i) (at d j)) + links_with w us i (suc i) a + links_with v (chain_at p d) j (suc j) (get_or (chain_at p d) j 0) ≡ plan_length_of e p + links_with w us i (suc i) (get_or (chain_at p d) j 0) + links_with v (chain_at p d) j (suc j) a =
    subst (λ (xs : List ℕ). plan_length_of e (swapped_plan p (at c i) (at d j)) + links_with w xs i (suc i) (get_or xs i 0) + links_with v (chain_at p d) j (suc j) (get_or (chain_at p d) j 0) ≡ plan_length_of e p + links_with w xs i (suc i) (get_or (chain_at p d) j 0) + links_with v (chain_at p d) j (suc j) (get_or xs i 0)) (sym eu) m in
    let m2 : plan_length_of e (swapped_plan p (at c i) (at d j)) + links_with w us i (suc i) a + links_with v ws j (suc j) b ≡ plan_length_of e p + links_with w us i (suc i) b + links_with v ws j (suc j) a =
    subst (λ (xs : List ℕ). plan_length_of e (swapped_plan p (at c i) (at d j)) + links_with w us i (suc i) a + links_with v xs j (suc j) (get_or xs j 0) ≡ plan_length_of e p + links_with w us i (suc i) (get_or xs j 0) + links_with v xs j (suc j) a) (sym ew) m1 in
    omega (arith, g1, g2, g3, g4, g5, g6, g7, g8, m2)
