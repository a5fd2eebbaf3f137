-- Steps over the statements of NETS and PINS.
use Rattle.std.proofs.Common.{◌≡◌, ℕ, ◌+◌, ◌<◌, List, [], ◌∷◌, ◌++◌, length, map, drop, get_or, Option, Some, None, refl, sym, ap, ◌∙◌, append_assoc, ◌≤◌, arith}
use Rattle.std.specs.List.{flat_map}
use Rattle.std.proofs.lemmas.List.{drop_more, drop_all}
use Rattle.splice.specs.declared.Edit.{Edit}
use Rattle.def_syntax.specs.declared.design.Located.{Located}
use Rattle.def_syntax.specs.declared.net.Net.{Net}
use Rattle.def_syntax.specs.declared.net.NetStatement.{NetStatement}
use Rattle.def_syntax.specs.declared.net.NetStatement.TheVariants as net_statements
use Rattle.def_reader.specs.declared.design.Component.{Component}
use Rattle.def_edit.specs.Alike.Changes.{NetChange, NetWords, net_in}
use Rattle.def_edit.specs.declared.pin_moves.PinMove.{PinMove}
use Rattle.def_edit.specs.NetChanges.{net_change, net_changes_from}
use Rattle.def_edit.specs.MovedText.{each_edit, net_edit, statement_edit, cut_count}
use Rattle.def_edit.specs.Lookups.{maybe_edit}
use Rattle.def_edit.specs.Pushed.{net_words, cut_of, changes_from, edits_from, cuts_from}

first_edit : {X C : Type 0} (f : X → C → List Edit) (x : X) (xs : List X) (c : Option C) (cs : List (Option C)) → each_edit f (x ∷ xs) (c ∷ cs) ≡ maybe_edit (f x) c ++ each_edit f xs cs
first_edit f x xs None cs = refl
first_edit f x xs (Some c) cs = refl

first_cut : (text : List ℕ) (n : Located NetStatement) (ns : List (Located NetStatement)) (c : Option NetChange) (cs : List (Option NetChange)) → cut_count text (n ∷ ns) (c ∷ cs) ≡ cut_of text n.span c + cut_count text ns cs
unfolding cut_count
first_cut text n ns None cs = refl
first_cut text n ns (Some c) cs = refl

sum_of : (cut more here later all : ℕ) → more ≡ here → all ≡ here + later → (cut + more) + later ≡ cut + all
sum_of cut more here later all e f = omega (arith, e, f)

plus_none : (k : ℕ) → 0 + k ≡ k
plus_none k = omega arith

-- members with their changes, each by itself
pub each_by : {X C : Type 0} (f : X → C → List Edit) (g : X → Option C) (xs : List X) → flat_map (λ x. maybe_edit (f x) (g x)) xs ≡ each_edit f xs (map g xs)
each_by f g [] = refl
each_by f g (x ∷ xs) = ap (λ (l : List Edit). maybe_edit (f x) (g x) ++ l) (each_by f g xs) ∙ sym (first_edit f x xs (g x) (map g xs))

module _ (text : List ℕ) (components : List Component) (rows : List NetWords) (moves : List PinMove) where
  abbrev changes : ℕ → List (Located NetStatement) → List (Option NetChange)
  changes number ns = changes_from text components rows moves number ns

  abbrev edits : ℕ → List (Located NetStatement) → List Edit
  edits number ns = edits_from text components rows moves number ns

  abbrev cuts : ℕ → List (Located NetStatement) → ℕ
  cuts number ns = cuts_from text components rows moves number ns

  here : (ns : List (Located NetStatement)) (i : ℕ) (n d : Located NetStatement) → i < length ns → n ≡ get_or ns i d → drop i ns ≡ n ∷ drop (i + 1) ns
  here ns i n d lt is = drop_more ns i d lt ∙ ap (λ (m : Located NetStatement). m ∷ drop (i + 1) ns) (sym is)

  none_first : (number : ℕ) (n : Located NetStatement) (ns : List (Located NetStatement)) → n.statement ≡ net_statements.MustJoin → changes number (n ∷ ns) ≡ None ∷ changes number ns
  unfolding net_changes_from
  none_first number n ns e = ap (λ (s : NetStatement). net_changes_from components rows moves number (net_in text s ∷ map (λ (m : Located NetStatement). net_in text m.statement) ns)) e

  some_first : (number : ℕ) (n : Located NetStatement) (ns : List (Located NetStatement)) (x : Net) → n.statement ≡ net_statements.Net x
      → changes number (n ∷ ns) ≡ net_change components rows moves number (net_words text x) ∷ changes (number + 1) ns
  unfolding net_changes_from
  some_first number n ns x e = ap (λ (s : NetStatement). net_changes_from components rows moves number (net_in text s ∷ map (λ (m : Located NetStatement). net_in text m.statement) ns)) e

  -- MUSTJOIN has no number and no edit
  pub skipped : (ns : List (Located NetStatement)) (i number : ℕ) (n d : Located NetStatement) → i < length ns → n ≡ get_or ns i d → n.statement ≡ net_statements.MustJoin
      → (edits number (drop i ns) ≡ edits number (drop (i + 1) ns)) × (cuts number (drop i ns) ≡ cuts number (drop (i + 1) ns))
  skipped ns i number n d lt is e =
      let rest = drop (i + 1) ns in
      let at = here ns i n d lt is in
      let cs = none_first number n rest e in (
        ap (edits number) at ∙ ap (each_edit (net_edit text) (n ∷ rest)) cs,
        ap (cuts number) at ∙ ap (cut_count text (n ∷ rest)) cs ∙ first_cut text n rest None (changes number rest) ∙ plus_none (cuts number rest),
      )

  -- a net
  pub put : (ns : List (Located NetStatement)) (i number : ℕ) (n d : Located NetStatement) (x : Net) → i < length ns → n ≡ get_or ns i d → n.statement ≡ net_statements.Net x
      → (edits number (drop i ns) ≡ maybe_edit (statement_edit text n.span (net_statements.Net x)) (net_change components rows moves number (net_words text x)) ++ edits (number + 1) (drop (i + 1) ns))
      × (cuts number (drop i ns) ≡ cut_of text n.span (net_change components rows moves number (net_words text x)) + cuts (number + 1) (drop (i + 1) ns))
  put ns i number n d x lt is e =
      let rest = drop (i + 1) ns in
      let at = here ns i n d lt is in
      let cs = some_first number n rest x e in
      let c = net_change components rows moves number (net_words text x) in (
        ap (edits number) at ∙ ap (each_edit (net_edit text) (n ∷ rest)) cs ∙ first_edit (net_edit text) n rest c (changes (number + 1) rest)
            ∙ ap (λ (s : NetStatement). maybe_edit (statement_edit text n.span s) c ++ edits (number + 1) rest) e,
        ap (cuts number) at ∙ ap (cut_count text (n ∷ rest)) cs ∙ first_cut text n rest c (changes (number + 1) rest),
      )

  -- behind MUSTJOIN
  pub after_skipped : (ns : List (Located NetStatement)) (i number : ℕ) (n d : Located NetStatement) (out total : List Edit) (cut sum : ℕ) → i < length ns → n ≡ get_or ns i d → n.statement ≡ net_statements.MustJoin
      → out ++ edits number (drop i ns) ≡ total → cut + cuts number (drop i ns) ≡ sum → (out ++ edits number (drop (i + 1) ns) ≡ total) × (cut + cuts number (drop (i + 1) ns) ≡ sum)
  after_skipped ns i number n d out total cut sum lt is e so_far counted =
      let same = skipped ns i number n d lt is e in (ap (λ (l : List Edit). out ++ l) (sym same.0) ∙ so_far, ap (λ (k : ℕ). cut + k) (sym same.1) ∙ counted)

  -- behind a net
  pub after_put : (ns : List (Located NetStatement)) (i number next : ℕ) (n d : Located NetStatement) (x : Net) (out new total : List Edit) (cut more sum : ℕ) → i < length ns → n ≡ get_or ns i d → n.statement ≡ net_statements.Net x
      → next ≡ number + 1 → new ≡ out ++ maybe_edit (statement_edit text n.span (net_statements.Net x)) (net_change components rows moves number (net_words text x))
      → more ≡ cut_of text n.span (net_change components rows moves number (net_words text x)) → out ++ edits number (drop i ns) ≡ total → cut + cuts number (drop i ns) ≡ sum
      → (new ++ edits next (drop (i + 1) ns) ≡ total) × ((cut + more) + cuts next (drop (i + 1) ns) ≡ sum)
  after_put ns i number next n d x out new total cut more sum lt is e following pushed told so_far counted =
      let rest = drop (i + 1) ns in
      let same = put ns i number n d x lt is e in
      let here_edits = maybe_edit (statement_edit text n.span (net_statements.Net x)) (net_change components rows moves number (net_words text x)) in (
        ap (λ (l : List Edit). l ++ edits next rest) pushed ∙ ap (λ (k : ℕ). (out ++ here_edits) ++ edits k rest) following ∙ append_assoc out here_edits (edits (number + 1) rest) ∙ ap (λ (l : List Edit). out ++ l) (sym same.0) ∙ so_far,
        ap (λ (k : ℕ). (cut + more) + cuts k rest) following ∙ sum_of cut more _ (cuts (number + 1) rest) (cuts number (drop i ns)) told same.1 ∙ counted,
      )

  -- at the end
  pub all_counted : (ns : List (Located NetStatement)) (i number cut sum : ℕ) → length ns ≤ i → cut + cuts number (drop i ns) ≡ sum → cut ≡ sum
  unfolding cut_count
  all_counted ns i number cut sum le counted =
      let none : cuts number (drop i ns) ≡ 0 = ap (cuts number) (drop_all i ns le) in
      omega (arith, none, counted)
