-- The freed ports among some changes, one change after another.
use Rattle.std.proofs.Common.{◌≡◌, ℕ, ◌+◌, ◌<◌, Bool, true, false, cond, List, [], ◌∷◌, ◌++◌, length, get_or, take, sym, ap, ap₂, ◌∙◌}
use Rattle.std.proofs.lemmas.List.{append-nil}
use Rattle.std.proofs.lemmas.List.Elements.{filter_more}
use Rattle.netlist_core.specs.declared.netlist.Netlist.{Netlist}
use Rattle.cell_table.specs.Cells.{Cells}
use Rattle.path_links.specs.Direct.{is_direct_from}
use Rattle.net_edit.specs.Changes.{Change, freed}

module _ (n m : Netlist) (cells : Cells) (cs : List Change) (i : ℕ) (d : Change) (before after : List Change) (lt : i < length cs) (same : m ≡ n) (was : before ≡ freed n cells (take i cs)) where
  next : (b : Bool) → is_direct_from m cells (get_or cs i d).port (get_or cs i d).was ≡ b → after ≡ before ++ cond b (get_or cs i d ∷ []) [] → after ≡ freed n cells (take (i + 1) cs)
  next b is put =
      put
      ∙ ap₂ (λ (l : List Change) (t : Bool). l ++ cond t (get_or cs i d ∷ []) []) was (sym is ∙ ap (λ (k : Netlist). is_direct_from k cells (get_or cs i d).port (get_or cs i d).was) same)
      ∙ sym (filter_more (λ (c : Change). is_direct_from n cells c.port c.was) cs i d lt)

  -- the change frees its port
  pub one_freed : is_direct_from m cells (get_or cs i d).port (get_or cs i d).was ≡ true → after ≡ before ++ get_or cs i d ∷ [] → after ≡ freed n cells (take (i + 1) cs)
  one_freed is put = next true is put

  -- it doesn't
  pub none_freed : is_direct_from m cells (get_or cs i d).port (get_or cs i d).was ≡ false → after ≡ before → after ≡ freed n cells (take (i + 1) cs)
  none_freed is put = next false is (put ∙ sym (append-nil before))
