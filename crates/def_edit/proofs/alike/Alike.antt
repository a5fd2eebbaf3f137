-- What a text is whose statements have the words of another with changes.
use Rattle.std.proofs.Common.{◌≡◌, ℕ, List, [], ◌∷◌, ◌++◌, map, codes, refl, sym, ap, ◌∙◌, subst, append-nil}
use Rattle.std.specs.List.{flat_map, AllByRecursion as Each}
use Rattle.std.proofs.lemmas.List.{map-append}
use Rattle.token_forms.specs.Tokens.{Token}
use Rattle.token_forms.specs.Parts.{token_texts}
use Rattle.token_forms.specs.Forms.{Form}
use Rattle.def_tokens.specs.DefTokens.{tokens_in, def_tokens}
use Rattle.def_syntax.specs.Grammar.{units, component, design_pin, net, chain}
use Rattle.def_syntax.specs.Frames.{statements_in, outside, within}
use Rattle.def_syntax.specs.Designs.{statements_of, NoneCloses, HasNoForm, IsOnly, section_in}
use Rattle.def_syntax.specs.Reading.{located}
use Rattle.def_syntax.specs.declared.frame.SectionKind.TheVariants.{Components, Pins, Nets, ScanChains}
use Rattle.def_syntax.specs.declared.design.DesignText.{DesignText}
use Rattle.def_syntax.specs.declared.design.Located.{Located}
use Rattle.def_syntax.specs.declared.units.Units.{Units}
use Rattle.def_syntax.proofs.FrameLaws.{each_append, each_front, each_behind}
use Rattle.def_layout.specs.NetForms.{IsIn, AreIn}
use Rattle.def_layout.specs.SectionForms.{AreSpelled}
use Rattle.def_layout.proofs.NetLaw.{tokens_are_in}
use Rattle.def_edit.specs.Alike.Changes.{net_in}
use Rattle.def_edit.specs.Alike.Laws.{pin_value, AlikeLaw}
use Rattle.def_edit.proofs.alike.Lists.{cut_map, first_map, map_of_map}
use Rattle.def_edit.proofs.alike.SameGrammar.{units_by}
use Rattle.def_edit.proofs.alike.SameFrames.{same_end}
use Rattle.def_edit.proofs.alike.Statements.{statements_have}
use Rattle.def_edit.proofs.alike.Endings.{BeginsDashed, IsDashed, components_dashed, pins_dashed, nets_dashed, chains_dashed}
use Rattle.def_edit.proofs.alike.Readings.{locate, locate_are, locate_map, Read}
use Rattle.def_edit.proofs.alike.Blocks.{blocks_back}
use Rattle.def_edit.proofs.alike.Frames.{inner_each, blocks_are, heads_are, open_are, outside_same, kinds_same}
use Rattle.def_edit.proofs.alike.Contents.{body_is, components_are, pins_are, nets_are, chains_are}

each_dashed : {X : Type 0} (form : Form X) → IsDashed form → (xs : List X) (ss : List (List Token)) → AreSpelled form xs ss → Each BeginsDashed ss
each_dashed form d [] [] h = tt
each_dashed form d [] (s ∷ ss) h = absurd h
each_dashed form d (x ∷ xs) [] h = absurd h
each_dashed form d (x ∷ xs) (s ∷ ss) h = (d.first x s h.0, each_dashed form d xs ss h.1)

-- statements of the same words are of no form either
none_again : (ss others : List (List Token)) → map token_texts others ≡ map token_texts ss → Each (HasNoForm units) ss → Each (HasNoForm units) others
none_again ss [] e h = tt
none_again [] (u ∷ others) e h = absurd cc
none_again (s ∷ ss) (u ∷ others) e h =
    let here : token_texts u ≡ token_texts s = cc in
    let tail : map token_texts others ≡ map token_texts ss = cc in
    (λ x k. h.0 x (units_by.same x u s here k), none_again ss others tail h.1)

record OnlyAgain (text : List ℕ) (ss : List (List Token)) (x : Located Units) : Type 0 where
  value : Located Units
  only : IsOnly units text ss value
  same : value.statement ≡ x.statement

only_again : (text written : List ℕ) (ss others : List (List Token)) (x : Located Units) → map token_texts others ≡ map token_texts ss → IsOnly units text ss x → OnlyAgain written others x
only_again text written ss others x e h =
    let cut = cut_map token_texts (map token_texts h.front) (token_texts h.statement ∷ map token_texts h.behind) others (e ∙ ap (map token_texts) h.is ∙ map-append token_texts h.front (h.statement ∷ h.behind)) in
    let one = first_map token_texts (token_texts h.statement) (map token_texts h.behind) cut.behind cut.second in
    record {
      value = located written one.member x.statement;
      only = record {
        front = cut.front;
        statement = one.member;
        behind = one.rest;
        is = cut.is ∙ ap (λ (l : List (List Token)). cut.front ++ l) one.is;
        located = record { spelled = units_by.same x.statement h.statement one.member (sym one.first) h.located.spelled; span = refl; line = refl };
        others = each_append (HasNoForm units) cut.front one.rest (none_again h.front cut.front cut.first (each_front (HasNoForm units) h.front h.behind h.others))
            (none_again h.behind one.rest one.second (each_behind (HasNoForm units) h.front h.behind h.others));
      };
      same = refl;
    }

-- values of statements at their places
values_of : {X Y : Type 0} (form : Form X) (value : X → Y) (ys : List Y) (text : List ℕ) (ss : List (List Token)) → (h : Read form value ys ss) → map (λ x. value x.statement) (locate text ss h.values) ≡ ys
values_of form value ys text ss h = sym (map_of_map value (λ x. x.statement) (locate text ss h.values)) ∙ ap (map value) (locate_map form text ss h.values h.spelled) ∙ h.same

pub alike_law : AlikeLaw
alike_law text t r c written once fit e =
    let ss = statements_of written in
    let back = blocks_back text t c r.blocks ss (map token_texts (r.closed.end ∷ r.closed.behind)) e in
    let ds = back.blocks in
    let end = first_map token_texts (token_texts r.closed.end) (map token_texts r.closed.behind) back.rest back.words in
    let whole : ss ≡ flat_map statements_in ds ++ end.member ∷ end.rest = back.is ∙ ap (λ (l : List (List Token)). flat_map statements_in ds ++ l) end.is in
    let all_in = statements_have (AreIn written) (each_front (IsIn written)) (each_behind (IsIn written)) (tokens_in written) (tokens_are_in written (def_tokens written)) in
    let inside = each_front (AreIn written) (flat_map statements_in ds) (end.member ∷ end.rest) (subst (Each (AreIn written)) whole all_in) in
    let a = components_are text t r c once fit written ds back.beside inside in
    let p = pins_are text t r c once fit written ds back.beside inside in
    let n = nets_are text t r c once fit written ds back.beside inside in
    let h = chains_are text t r c once fit written ds back.beside inside in
    let dashed = inner_each BeginsDashed ds (each_dashed component components_dashed a.values (within Components ds) a.spelled) (each_dashed design_pin pins_dashed p.values (within Pins ds) p.spelled)
    (each_dashed net nets_dashed n.values (within Nets ds) n.spelled) (each_dashed chain chains_dashed h.values (within ScanChains ds) h.spelled)
    in
    let first : NoneCloses (flat_map statements_in r.blocks) = subst NoneCloses (body_is text t r) r.closed.first in
    let u = only_again text written (outside r.blocks) (outside ds) t.units (outside_same text t c r.blocks ds back.beside) r.units in
    let d : DesignText =
    record {
      units = u.value;
      components = locate written (within Components ds) a.values;
      pins = locate written (within Pins ds) p.values;
      nets = locate written (within Nets ds) n.values;
      chains = locate written (within ScanChains ds) h.values;
      sections = flat_map (section_in written) ds;
    }
    in
    record {
      value = d;
      is = record {
        body = flat_map statements_in ds;
        closed = record { end = end.member; behind = end.rest; is = whole; ends = same_end (codes "DESIGN") end.member r.closed.end end.first ∙ r.closed.ends; first = open_are text t c (codes "DESIGN") r.blocks ds back.beside first dashed };
        blocks = ds;
        framed = record { blocks = blocks_are text t c r.blocks ds back.beside r.framed.blocks dashed; begun = tt; is = sym (append-nil (flat_map statements_in ds)) };
        heads = heads_are text t c r.blocks ds back.beside r.heads;
        units = u.only;
        components = locate_are component written (within Components ds) a.values a.spelled;
        pins = locate_are design_pin written (within Pins ds) p.values p.spelled;
        nets = locate_are net written (within Nets ds) n.values n.spelled;
        chains = locate_are chain written (within ScanChains ds) h.values h.spelled;
        sections = refl;
      };
      changed = record {
        units = u.same;
        components = values_of component (λ x. x) _ written (within Components ds) a;
        pins = values_of design_pin pin_value _ written (within Pins ds) p;
        nets = values_of net (net_in written) _ written (within Nets ds) n;
        chains = values_of chain (λ x. x) _ written (within ScanChains ds) h;
        sections = kinds_same text t c written r.blocks ds back.beside ∙ ap (map (λ s. s.kind)) (sym r.sections);
      };
    }
