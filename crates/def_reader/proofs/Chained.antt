-- Rows entered in an index, as one more is.
use Rattle.std.proofs.Common.{◌≡◌, ℕ, ◌+◌, ◌<◌, ◌≤◌, inl, inr, Bool, true, false, cond, List, [], ◌∷◌, ◌++◌, length, take, set, replicate, Option, Some, None, is_some, is_none, not, slice_get, slice_index, position, bytes_eq, refl, sym, ap, ◌∙◌, subst, arith, length-append, length-set, length-take-le}
use Rattle.std.proofs.lemmas.Bool.{cases_Bool, cases_lt, cases_order, cases_eq}
use Rattle.std.proofs.lemmas.List.{take_more, get_or_append_left, get_or-set_same, get_or-set_other, get_or_past, get_or-replicate, length-replicate}
use Rattle.std.proofs.lemmas.Option.{same_Some, slice_get_within, get_or_from_slice_get}
use Rattle.std.proofs.lemmas.Slice.Eq.{bytes_eq-Decides}
use Rattle.std.proofs.Math.Seq.{get_or-append_seam}
use Rattle.def_reader.specs.NamedRows.{bucket_of, Leads, Nowhere, Here, Onward, AreChained}
use Rattle.def_reader.proofs.Places.{position_fails, position_stays, position_last, position_some}

-- whether one of the rows has a name
abbrev pub has_row : {X : Type 0} → (X → List ℕ) → List X → List ℕ → Bool
has_row name rows q = is_some (position (λ row. bytes_eq (name row) q) rows)

module _ {X : Type 0} (name : X → List ℕ) (rows : List X) (links : List ℕ) (q : List ℕ) where
  same_row : (p k : ℕ) (x y : X) → k ≡ p → slice_get rows p ≡ Some x → slice_get rows k ≡ Some y → y ≡ x
  same_row p k x y e here there = same_Some y x (sym there ∙ ap (slice_get rows) e ∙ here)

  -- link 0 leads nowhere
  pub at_end : (l : ℕ) (r : Option ℕ) → Leads name rows links q l r → l ≡ 0 → r ≡ None
  at_end _ _ Nowhere e = refl
  at_end _ _ (Here p row at is) e = absurd (omega arith)
  at_end _ _ (Onward p row found at fails rest) e = absurd (omega arith)

  -- a link to a row of the name leads there
  pub at_row : (l : ℕ) (r : Option ℕ) → Leads name rows links q l r → (p : ℕ) (row : X) → l ≡ p + 1 → slice_get rows p ≡ Some row → bytes_eq (name row) q ≡ true → r ≡ Some p
  at_row _ _ Nowhere p row e at is = absurd (omega arith)
  at_row _ _ (Here k other there has) p row e at is = let same : k ≡ p = omega arith in ap (λ (n : ℕ). Some n) same
  at_row _ _ (Onward k other found there fails rest) p row e at is =
      let same : other ≡ row = same_row p k row other (omega arith) at there in
      let no : bytes_eq (name row) q ≡ false = subst (λ (x : X). bytes_eq (name x) q ≡ false) same fails in
      absurd cc

  -- a link to another row leads where the row's own link does
  pub past_row : (l : ℕ) (r : Option ℕ) → Leads name rows links q l r → (p : ℕ) (row : X) → l ≡ p + 1 → slice_get rows p ≡ Some row → bytes_eq (name row) q ≡ false → Leads name rows links q (slice_index links p) r
  past_row _ _ Nowhere p row e at fails = absurd (omega arith)
  past_row _ _ (Here k other there has) p row e at fails =
      let same : other ≡ row = same_row p k row other (omega arith) at there in
      let yes : bytes_eq (name row) q ≡ true = subst (λ (x : X). bytes_eq (name x) q ≡ true) same has in
      absurd cc
  past_row _ _ (Onward k other found there failed rest) p row e at fails =
      let same : k ≡ p = omega arith in subst (λ (n : ℕ). Leads name rows links q (slice_index links n) found) same rest

  -- a further link changes no way
  kept : (v : ℕ) → ((p : ℕ) → slice_index links p ≤ p) → (l : ℕ) (r : Option ℕ) → l ≤ length links → Leads name rows links q l r → Leads name rows (links ++ v ∷ []) q l r
  kept v back _ _ le Nowhere = Nowhere
  kept v back _ _ le (Here p row at is) = Here p row at is
  kept v back _ _ le (Onward p row found at fails rest) =
      let before = back p in
      let lt : p < length links = omega arith in
      let same : slice_index (links ++ v ∷ []) p ≡ slice_index links p = get_or_append_left links (v ∷ []) 0 p lt in
      Onward p row found at fails (subst (λ (n : ℕ). Leads name rows (links ++ v ∷ []) q n found) (sym same) (kept v back (slice_index links p) found (omega arith) rest))

module _ {X : Type 0} (name : X → List ℕ) (key : ℕ) (heads links : List ℕ) (rows : List X) (row : X) (all : AreChained name key heads links rows) (at : slice_get rows (length links) ≡ Some row) where
  inside : length links < length rows
  inside = slice_get_within rows (length links) row at

  longer : (v : ℕ) → length (links ++ v ∷ []) ≡ length links + 1
  longer v = length-append links (v ∷ [])

  abbrev pub first : List ℕ → Option ℕ
  first q = position (λ x. bytes_eq (name x) q) (take (length links) rows)

  rows_more : (v : ℕ) → take (length (links ++ v ∷ [])) rows ≡ take (length links) rows ++ row ∷ []
  rows_more v =
      ap (λ (n : ℕ). take n rows) (longer v) ∙ take_more rows (length links) row inside
      ∙ ap (λ (x : X). take (length links) rows ++ x ∷ []) (get_or_from_slice_get rows (length links) row row at)

  first_more : (v : ℕ) (q : List ℕ) (o : Option ℕ) → position (λ x. bytes_eq (name x) q) (take (length links) rows ++ row ∷ []) ≡ o → position (λ x. bytes_eq (name x) q) (take (length (links ++ v ∷ [])) rows) ≡ o
  first_more v q o is = ap (position (λ x. bytes_eq (name x) q)) (rows_more v) ∙ is

  back_more : (v : ℕ) → v ≤ length links → (p : ℕ) → slice_index (links ++ v ∷ []) p ≤ p
  back_more v le p =
      elim (cases_order p (length links)) [
        | inl same ↦ let last : slice_index (links ++ v ∷ []) (length links) ≡ v = get_or-append_seam links v [] 0 in
            let here : slice_index (links ++ v ∷ []) p ≡ slice_index (links ++ v ∷ []) (length links) = ap (slice_index (links ++ v ∷ [])) same in
            omega arith
        | inr (inl lt) ↦
            let same : slice_index (links ++ v ∷ []) p ≡ slice_index links p = get_or_append_left links (v ∷ []) 0 p lt in let before = all.back p in omega arith
        | inr (inr lt) ↦
            let count = longer v in
            let none : slice_index (links ++ v ∷ []) p ≡ 0 = get_or_past (links ++ v ∷ []) p 0 (omega arith) in
            omega arith
      ]

  way : (v : ℕ) (q : List ℕ) (b : ℕ) → Leads name rows links q (slice_index heads b) (first q) → Leads name rows (links ++ v ∷ []) q (slice_index heads b) (first q)
  way v q b leads = kept name rows links q v all.back (slice_index heads b) (first q) (all.within b) leads

  same_first : (q : List ℕ) → name row ≡ q → first (name row) ≡ first q
  same_first q same = ap first same

  -- a row whose name stands before it is passed over
  pub passed : is_some (first (name row)) ≡ true → AreChained name key heads (links ++ 0 ∷ []) rows
  passed found = record {
    some = all.some;
    few = let count = longer 0 in omega (arith, inside);
    back = back_more 0 (omega arith);
    within = λ b. let count = longer 0 in let before = all.within b in omega arith;
    leads = λ q.
        subst (λ (o : Option ℕ). Leads name rows (links ++ 0 ∷ []) q (slice_index heads (bucket_of key (length heads) q)) o)
        (sym (first_more 0 q (first q)
        (elim (cases_Bool (bytes_eq (name row) q)) [
          | inl is ↦
              position_stays (λ (x : X). bytes_eq (name x) q) (take (length links) rows) row (ap is_some (sym (same_first q ((bytes_eq-Decides (name row) q).0 is))) ∙ found)
          | inr fails ↦ position_fails (λ (x : X). bytes_eq (name x) q) (take (length links) rows) row fails
        ])))
        (way 0 q (bucket_of key (length heads) q) (all.leads q));
  }

  module _ (b head : ℕ) (is_b : b ≡ bucket_of key (length heads) (name row)) (is_head : head ≡ slice_index heads b) (there : b < length heads) (none : first (name row) ≡ None) where
    own : slice_index (set heads b (length links + 1)) b ≡ length links + 1
    own = get_or-set_same heads b (length links + 1) 0 there

    others : (c : ℕ) → (c ≡ b → ⊥) → slice_index (set heads b (length links + 1)) c ≡ slice_index heads c
    others c other = get_or-set_other heads b c (length links + 1) 0 other

    within_more : (c : ℕ) → slice_index (set heads b (length links + 1)) c ≤ length (links ++ head ∷ [])
    within_more c =
        let count = longer head in
        elim (cases_eq c b) [
          | inl same ↦ let here = ap (slice_index (set heads b (length links + 1))) same in let mine = own in omega arith
          | inr other ↦ let here = others c other in let before = all.within c in omega arith
        ]

    last : slice_index (links ++ head ∷ []) (length links) ≡ slice_index heads b
    last = get_or-append_seam links head [] 0 ∙ is_head

    at_new : (q : List ℕ) → bytes_eq (name row) q ≡ true → Leads name rows (links ++ head ∷ []) q (slice_index (set heads b (length links + 1)) (bucket_of key (length heads) q)) (Some (length links))
    at_new q is =
        let same : name row ≡ q = (bytes_eq-Decides (name row) q).0 is in
        let mine : bucket_of key (length heads) q ≡ b = ap (bucket_of key (length heads)) (sym same) ∙ sym is_b in
        subst (λ (l : ℕ). Leads name rows (links ++ head ∷ []) q l (Some (length links))) (sym (ap (slice_index (set heads b (length links + 1))) mine ∙ own)) (Here (length links) row at is)

    past_new : (q : List ℕ) → bytes_eq (name row) q ≡ false → Leads name rows (links ++ head ∷ []) q (slice_index (set heads b (length links + 1)) (bucket_of key (length heads) q)) (first q)
    past_new q fails =
        elim (cases_eq (bucket_of key (length heads) q) b) [
          | inl same ↦
              let before : Leads name rows (links ++ head ∷ []) q (slice_index heads b) (first q) = subst (λ (c : ℕ). Leads name rows (links ++ head ∷ []) q (slice_index heads c) (first q)) same (way head q (bucket_of key (length heads) q) (all.leads q)) in
              subst (λ (l : ℕ). Leads name rows (links ++ head ∷ []) q l (first q)) (sym (ap (slice_index (set heads b (length links + 1))) same ∙ own))
              (Onward (length links) row (first q) at fails (subst (λ (l : ℕ). Leads name rows (links ++ head ∷ []) q l (first q)) (sym last) before))
          | inr other ↦
              subst (λ (l : ℕ). Leads name rows (links ++ head ∷ []) q l (first q)) (sym (others (bucket_of key (length heads) q) other)) (way head q (bucket_of key (length heads) q) (all.leads q))
        ]

    leads_more : (q : List ℕ) → Leads name rows (links ++ head ∷ []) q (slice_index (set heads b (length links + 1)) (bucket_of key (length heads) q)) (position (λ x. bytes_eq (name x) q) (take (length (links ++ head ∷ [])) rows))
    leads_more q =
        elim (cases_Bool (bytes_eq (name row) q)) [
          | inl is ↦
              let long : length (take (length links) rows) ≡ length links = length-take-le (length links) rows all.few in
              let now = first_more head q (Some (length links)) (position_last (λ (x : X). bytes_eq (name x) q) (take (length links) rows) row is (sym (same_first q ((bytes_eq-Decides (name row) q).0 is)) ∙ none) ∙ ap (λ (n : ℕ). Some n) long) in
              subst (λ (o : Option ℕ). Leads name rows (links ++ head ∷ []) q (slice_index (set heads b (length links + 1)) (bucket_of key (length heads) q)) o) (sym now) (at_new q is)
          | inr fails ↦
              let now = first_more head q (first q) (position_fails (λ (x : X). bytes_eq (name x) q) (take (length links) rows) row fails) in
              subst (λ (o : Option ℕ). Leads name rows (links ++ head ∷ []) q (slice_index (set heads b (length links + 1)) (bucket_of key (length heads) q)) o) (sym now) (past_new q fails)
        ]

    -- another one is entered at the head of its bucket
    pub entered : AreChained name key (set heads b (length links + 1)) (links ++ head ∷ []) rows
    entered =
        let count : length (set heads b (length links + 1)) ≡ length heads = length-set heads b (length links + 1) in
        record {
          some = let some = all.some in omega arith;
          few = let more = longer head in let lt = inside in omega arith;
          back = back_more head (let before = all.within b in omega arith);
          within = within_more;
          leads = λ q.
              subst (λ (m : ℕ). Leads name rows (links ++ head ∷ []) q (slice_index (set heads b (length links + 1)) (bucket_of key m q)) (position (λ x. bytes_eq (name x) q) (take (length (links ++ head ∷ [])) rows)))
              (sym count) (leads_more q);
        }

zeros : (n b : ℕ) → slice_index (replicate {A = ℕ} n 0) b ≡ 0
zeros n b =
    elim (cases_lt b n) [
      | inl lt ↦ get_or-replicate n b 0 0 lt
      | inr le ↦ let count : length (replicate {A = ℕ} n 0) ≡ n = length-replicate {A = ℕ} n 0 in get_or_past (replicate {A = ℕ} n 0) b 0 (omega arith)
    ]

-- no row is entered at first
pub none_entered : {X : Type 0} (name : X → List ℕ) (key n : ℕ) (rows : List X) → 0 < n → AreChained name key (replicate {A = ℕ} n 0) [] rows
none_entered name key n rows some =
    let count : length (replicate {A = ℕ} n 0) ≡ n = length-replicate {A = ℕ} n 0 in
    record {
      some = omega arith;
      few = omega arith;
      back = λ p. let none : slice_index [] p ≡ 0 = get_or_past [] p 0 (omega arith) in omega arith;
      within = λ b. let none = zeros n b in omega arith;
      leads = λ q. subst (λ (l : ℕ). Leads name rows [] q l None) (sym (zeros n (bucket_of key (length (replicate {A = ℕ} n 0)) q))) Nowhere;
    }

-- what the chain of a name's bucket leads to
pub walked : {X : Type 0} (name : X → List ℕ) (key : ℕ) (heads links : List ℕ) (rows : List X) → AreChained name key heads links rows → (q : List ℕ) (b head : ℕ) (r : Option ℕ) → b ≡ bucket_of key (length heads) q → head ≡ slice_index heads b
    → ((found : Option ℕ) → Leads name rows links q head found → r ≡ found) → r ≡ position (λ x. bytes_eq (name x) q) (take (length links) rows)
walked name key heads links rows all q b head r is_b is_head leads =
    leads (position (λ x. bytes_eq (name x) q) (take (length links) rows))
    (subst (λ (l : ℕ). Leads name rows links q l (position (λ x. bytes_eq (name x) q) (take (length links) rows))) (sym (is_head ∙ ap (slice_index heads) is_b)) (all.leads q))

pub none_of : (o : Option ℕ) → is_some o ≡ false → o ≡ None
none_of None e = refl
none_of (Some p) e = absurd cc

pub not_some : (o : Option ℕ) → is_none o ≡ not (is_some o)
not_some None = refl
not_some (Some p) = refl

-- a name stands among rows and one more
pub has_more : {X : Type 0} (name : X → List ℕ) (rows : List X) (row : X) (q : List ℕ) → has_row name (rows ++ row ∷ []) q ≡ cond (bytes_eq (name row) q) true (has_row name rows q)
has_more name rows row q = position_some (λ x. bytes_eq (name x) q) rows row
