-- Steps over the sections of a text.
use Rattle.std.proofs.Common.{◌≡◌, ℕ, ◌+◌, ◌<◌, ◌≤◌, Bool, true, false, cond, ◌||◌, List, [], ◌∷◌, ◌++◌, length, drop, take, get_or, Option, refl, sym, ap, ◌∙◌, append_assoc, append-nil}
use Rattle.std.specs.List.{flat_map, list_any}
use Rattle.std.proofs.lemmas.List.{drop_more, drop_all, take_all}
use Rattle.std.proofs.lemmas.List.Folds.{list_any_more}
use Rattle.splice.specs.declared.Edit.{Edit}
use Rattle.def_syntax.specs.declared.design.DesignText.{DesignText}
use Rattle.def_syntax.specs.declared.design.Located.{Located}
use Rattle.def_syntax.specs.declared.design.Section.{Section}
use Rattle.def_syntax.specs.declared.frame.SectionKind.{SectionKind}
use Rattle.def_syntax.specs.declared.frame.SectionKind.TheVariants as kinds
use Rattle.def_syntax.specs.declared.net.NetStatement.{NetStatement}
use Rattle.def_syntax.specs.declared.pin.DesignPin.{DesignPin}
use Rattle.def_edit.specs.Alike.Changes.{NetWords, NetChange}
use Rattle.def_reader.specs.declared.design.Net.{Net}
use Rattle.base_types.specs.Names.{plain_name}
use Rattle.def_edit.specs.declared.pin_moves.PinMove.{PinMove}
use Rattle.def_edit.specs.NetChanges.{net_rows, pin_changes, new_word}
use Rattle.def_edit.specs.MovedText.{each_edit, pin_edit, cut_count}
use Rattle.def_edit.specs.Lookups.{is_nets, counted_behind}
use Rattle.def_edit.specs.Pushed.{pin_moved}
use Rattle.def_edit.proofs.NetSteps.{each_by}

-- the edits of all design pins
pub pins_are : (text : List ℕ) (t : DesignText) (nets : List Net) (moves : List PinMove) (rows : List NetWords) → rows ≡ net_rows text t
    → flat_map (pin_moved text rows nets moves) t.pins ≡ each_edit (pin_edit text) t.pins (pin_changes text t nets moves)
pins_are text t nets moves rows e =
    ap (λ (r : List NetWords). flat_map (pin_moved text r nets moves) t.pins) e
    ∙ each_by (pin_edit text) (λ (p : Located DesignPin). new_word (net_rows text t) nets moves (plain_name p.statement.name)) t.pins

counted_so : (kind : SectionKind) (count : ℕ) (some : Bool) → counted_behind kind count (cond some count 0) ≡ cond (some || is_nets kind) count 0
counted_so kinds.Components count true = refl
counted_so kinds.Components count false = refl
counted_so kinds.Pins count true = refl
counted_so kinds.Pins count false = refl
counted_so kinds.Nets count true = refl
counted_so kinds.Nets count false = refl
counted_so kinds.ScanChains count true = refl
counted_so kinds.ScanChains count false = refl

counted_all : (some : Bool) (count : ℕ) → (some ≡ false → count ≡ 0) → cond some count 0 ≡ count
counted_all true count none = refl
counted_all false count none = sym (none refl)

module _ (f : Section → List Edit) (count : ℕ) (ss : List Section) where
  abbrev among : List Section → Bool
  among l = list_any (λ (s : Section). is_nets s.kind) l

  -- one section more
  pub section_step : (i : ℕ) (s : Section) (out new total : List Edit) (cut next : ℕ) → i < length ss → s ≡ get_or ss i s → new ≡ out ++ f s → next ≡ counted_behind s.kind count cut
      → out ++ flat_map f (drop i ss) ≡ total → cut ≡ cond (among (take i ss)) count 0 → (new ++ flat_map f (drop (i + 1) ss) ≡ total) × (next ≡ cond (among (take (i + 1) ss)) count 0)
  section_step i s out new total cut next lt is pushed told so_far counted =
      let rest = flat_map f (drop (i + 1) ss) in
      let here : drop i ss ≡ s ∷ drop (i + 1) ss = drop_more ss i s lt ∙ ap (λ (m : Section). m ∷ drop (i + 1) ss) (sym is) in (
        ap (λ (l : List Edit). l ++ rest) pushed ∙ append_assoc out (f s) rest ∙ ap (λ (l : List Section). out ++ flat_map f l) (sym here) ∙ so_far,
        told ∙ ap (counted_behind s.kind count) counted ∙ counted_so s.kind count (among (take i ss)) ∙ ap (λ (m : Section). cond (among (take i ss) || is_nets m.kind) count 0) is
            ∙ ap (λ (b : Bool). cond b count 0) (sym (list_any_more (λ (m : Section). is_nets m.kind) ss i s lt)),
      )

  -- at the end
  pub sections_end : (i : ℕ) (out total : List Edit) (cut : ℕ) → length ss ≤ i → (among ss ≡ false → count ≡ 0) → out ++ flat_map f (drop i ss) ≡ total → cut ≡ cond (among (take i ss)) count 0 → (out ≡ total) × (cut ≡ count)
  sections_end i out total cut le none so_far counted = (
    sym (append-nil out) ∙ ap (λ (l : List Section). out ++ flat_map f l) (sym (drop_all i ss le)) ∙ so_far,
    counted ∙ ap (λ (l : List Section). cond (among l) count 0) (take_all i ss le) ∙ counted_all (among ss) count none,
  )

-- no statements lose no wiring
pub none_cut : (text : List ℕ) (ns : List (Located NetStatement)) (cs : List (Option NetChange)) → ns ≡ [] → cut_count text ns cs ≡ 0
unfolding cut_count
none_cut text ns cs e = ap (λ (l : List (Located NetStatement)). cut_count text l cs) e
