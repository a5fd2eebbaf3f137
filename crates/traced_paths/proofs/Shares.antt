-- Steps over several paths: each scan path of an instance stands once where none stands on a path and on one before it.
use Rattle.std.proofs.Common.{◌≡◌, ℕ, zero, suc, ◌+◌, ◌-◌, ◌<◌, ◌≤◌, ◌⊎◌, inl, inr, List, [], ◌∷◌, ◌++◌, length, take, drop, get_or, Contains, refl, sym, ap, ◌∙◌, subst, append_assoc, arith}
use Rattle.std.specs.Prelude.{All}
use Rattle.std.proofs.lemmas.List.{take_more, take-append-drop, get_or-take, get_or_default, get_or_append_left, get_or-append_right, length-append, length-take-le, get_or-append-add}
use Rattle.std.proofs.lemmas.List.Elements.{All-head, All-tail, Contains-get_or}
use Rattle.netlist_core.specs.declared.netlist.Netlist.{Netlist}
use Rattle.chain_trace.specs.declared.path.Path.{Path}
use Rattle.chain_trace.specs.declared.path.Step.{Step}
use Rattle.chain_trace.specs.Paths.{AreOfOnePath, StandOnce}
use Rattle.chain_trace.specs.Faults.{IsAmong}
use Rattle.list_laws.proofs.Members.{flat_from, flat_to}
use Rattle.traced_paths.specs.Traced.{steps_of}
use Rattle.traced_paths.specs.Steps.{StandsAgain}
use Rattle.traced_paths.proofs.SharedLines.{line_at}

one_back : (a b : Step) → AreOfOnePath a b → AreOfOnePath b a
one_back a b h = record { instance = sym h.instance; path = sym h.path }

split_at : {X : Type 0} (xs : List X) (i : ℕ) (d : X) → i < length xs → xs ≡ take i xs ++ get_or xs i d ∷ drop (i + 1) xs
split_at {X} xs i d lt =
    sym (take-append-drop (i + 1) xs) ∙ ap (λ (l : List X). l ++ drop (i + 1) xs) (take_more xs i d lt) ∙ append_assoc (take i xs) (get_or xs i d ∷ []) (drop (i + 1) xs)

-- a step that is contained is among them
pub among : (steps : List Step) (a b : Step) → Contains steps a → AreOfOnePath a b → IsAmong steps b
among steps a b h same = (h.0, h.1, subst (λ (s : Step). AreOfOnePath s b) (sym (get_or_default steps h.0 b a h.1 ∙ h.2)) same)

module _ (n : Netlist) where
  -- two paths with a scan path in common
  pub again_from : (paths : List Path) (k m : ℕ) (p q : Path) (step other : Step) (line : ℕ) → k < m → m < length paths → get_or paths k p ≡ p → get_or paths m q ≡ q → Contains p.steps step
      → Contains q.steps other → AreOfOnePath step other → line ≡ line_at n other → StandsAgain n paths line
  again_from paths k m p q step other line lt within pk qm on_p on_q same is =
      let len = length-take-le m paths (omega arith) in
      let there : Contains (take m paths) p = (k, omega arith, get_or-take m paths k p lt ∙ pk) in
      record {
        front = take m paths;
        path = q;
        behind = drop (m + 1) paths;
        is = split_at paths m q within ∙ ap (λ (x : Path). take m paths ++ x ∷ drop (m + 1) paths) qm;
        step = other;
        there = on_q;
        again = among (steps_of (take m paths)) step other (flat_to (λ (x : Path). x.steps) (take m paths) p step there on_p) same;
        line_is = is;
      }

  -- one path more in front
  again_more : (p : Path) (ps : List Path) (line : ℕ) → StandsAgain n ps line → StandsAgain n (p ∷ ps) line
  again_more p ps line h =
      let len = length-append p.steps (steps_of h.front) in
      let a = h.again in
      record {
        front = p ∷ h.front;
        path = h.path;
        behind = h.behind;
        is = ap (λ (l : List Path). p ∷ l) h.is;
        step = h.step;
        there = h.there;
        again = (length p.steps + a.0, omega arith, subst (λ (s : Step). AreOfOnePath s h.step) (sym (get_or-append-add p.steps (steps_of h.front) a.0 h.step)) a.2);
        line_is = h.line_is;
      }

  module _ (xs ys : List Step) (hx : StandOnce xs) (hy : StandOnce ys) (apart : (a b : Step) → Contains xs a → Contains ys b → AreOfOnePath a b → ⊥) where
    at_left : (i : ℕ) (d : Step) → i < length xs → get_or (xs ++ ys) i d ≡ get_or xs i d
    at_left i d lt = get_or_append_left xs ys d i lt

    at_right : (i : ℕ) (d : Step) → length xs ≤ i → get_or (xs ++ ys) i d ≡ get_or ys (i - length xs) d
    at_right i d le = get_or-append_right xs ys (length xs) i d refl le

    moved : (a b c d : Step) → a ≡ b → c ≡ d → AreOfOnePath a c → AreOfOnePath b d
    moved a b c d e f h = subst (λ (x : Step). AreOfOnePath x d) e (subst (λ (y : Step). AreOfOnePath a y) f h)

    side : (i k : ℕ) → (i < k) ⊎ (k ≤ i)
    side i zero = inr (omega arith)
    side zero (suc k) = inl (omega arith)
    side (suc i) (suc k) = elim (side i k) [ inl lt ↦ inl (omega arith) | inr le ↦ inr (omega arith) ]

    once_at : (i j : ℕ) (d : Step) → i < length xs + length ys → j < length xs + length ys → AreOfOnePath (get_or (xs ++ ys) i d) (get_or (xs ++ ys) j d) → (i < length xs) ⊎ (length xs ≤ i) → (j < length xs) ⊎ (length xs ≤ j) → i ≡ j
    once_at i j d li lj h (inl a) (inl b) = hx i j d a b (moved _ _ _ _ (at_left i d a) (at_left j d b) h)
    once_at i j d li lj h (inl a) (inr b) =
        let within : j - length xs < length ys = omega arith in
        absurd (apart (get_or xs i d) (get_or ys (j - length xs) d) (Contains-get_or xs i d a) (Contains-get_or ys (j - length xs) d within) (moved _ _ _ _ (at_left i d a) (at_right j d b) h))
    once_at i j d li lj h (inr a) (inl b) =
        let within : i - length xs < length ys = omega arith in
        absurd (
        apart (get_or xs j d) (get_or ys (i - length xs) d) (Contains-get_or xs j d b) (Contains-get_or ys (i - length xs) d within)
        (one_back (get_or ys (i - length xs) d) (get_or xs j d) (moved _ _ _ _ (at_right i d a) (at_left j d b) h))
        )
    once_at i j d li lj h (inr a) (inr b) =
        let same : i - length xs ≡ j - length xs = hy (i - length xs) (j - length xs) d (omega arith) (omega arith) (moved _ _ _ _ (at_right i d a) (at_right j d b) h) in
        omega arith

    once_append : StandOnce (xs ++ ys)
    once_append i j d li lj h =
        let len = length-append xs ys in
        once_at i j d (omega arith) (omega arith) h (side i (length xs)) (side j (length xs))

  -- all steps together
  pub once_all : (paths : List Path) → All (λ p. StandOnce p.steps) paths → ((line : ℕ) → StandsAgain n paths line → ⊥) → StandOnce (steps_of paths)
  once_all [] each none = λ i j d li lj h. absurd (omega arith)
  once_all (p ∷ ps) each none =
      once_append p.steps (steps_of ps) (All-head (λ (x : Path). StandOnce x.steps) p ps each)
      (once_all ps (All-tail (λ (x : Path). StandOnce x.steps) p ps each) (λ line h. none line (again_more p ps line h)))
      (λ a b ha hb same.
      let w = flat_from (λ (x : Path). x.steps) ps b hb in
      let at = w.there in
      none (line_at n b) (again_from (p ∷ ps) zero (suc at.0) p w.member a b (line_at n b) (omega arith) (omega arith) refl at.2 ha w.inside same refl))
