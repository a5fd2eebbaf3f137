-- What a text with changes has in its sections.
use Rattle.std.proofs.Common.{◌≡◌, ℕ, List, [], ◌∷◌, ◌++◌, length, map, refl, sym, ap, ◌∙◌, subst, append_assoc, append-nil}
use Rattle.std.specs.List.{flat_map, AllByRecursion as Each}
use Rattle.token_forms.specs.Tokens.{Token}
use Rattle.token_forms.specs.Parts.{token_texts}
use Rattle.token_forms.specs.Forms.{Form}
use Rattle.def_tokens.specs.DefTokens.{tokens_in}
use Rattle.def_tokens.specs.DefStatements.{IsStatementSplit}
use Rattle.def_tokens.proofs.DefCuts.{statements_law}
use Rattle.def_syntax.specs.Grammar.{component, design_pin, net, chain}
use Rattle.def_syntax.specs.Frames.{Block, statements_in, within}
use Rattle.def_syntax.specs.Designs.{statements_of, AreLocated, IsDesignText}
use Rattle.def_syntax.specs.declared.frame.SectionKind.{SectionKind}
use Rattle.def_syntax.specs.declared.frame.SectionKind.TheVariants.{Components, Pins, Nets, ScanChains}
use Rattle.def_syntax.specs.declared.design.DesignText.{DesignText}
use Rattle.def_syntax.specs.declared.design.Located.{Located}
use Rattle.def_syntax.proofs.FrameLaws.{each_front}
use Rattle.def_layout.specs.NetForms.{AreIn}
use Rattle.def_layout.specs.Slices.{StandIn}
use Rattle.def_layout.specs.SectionForms.{read_chain}
use Rattle.def_reader.specs.Faults.{StandsAgain, section_rows}
use Rattle.def_edit.specs.Alike.Changes.{Changes, net_in, changed_net, changed_each, IsFit}
use Rattle.def_edit.specs.Alike.Fields.{changed_nets}
use Rattle.def_edit.specs.Alike.Laws.{pin_value, with_word, pins_in, AreOnce}
use Rattle.def_edit.proofs.alike.SameGrammar.{component_by}
use Rattle.def_edit.proofs.alike.Statements.{Strict, each_strict, IsEnded, all_ended, statements_have}
use Rattle.def_edit.proofs.alike.Readings.{Read, none_read, same_read, pins_read, nets_read, chains_read}
use Rattle.def_edit.proofs.alike.Blocks.{IsOnce, once_of, AreBeside, OneOf, Absent, Found, one_of}
use Rattle.def_edit.proofs.alike.Frames.{within_each}

stand_front : (text : List ℕ) (a b : List Token) → StandIn text (a ++ b) → StandIn text a
stand_front text a b h = record { front = h.front; behind = b ++ h.behind; is = h.is ∙ ap (λ (l : List Token). h.front ++ l) (append_assoc a b h.behind) }

stand_behind : (text : List ℕ) (a b : List Token) → StandIn text (a ++ b) → StandIn text b
stand_behind text a b h =
    record { front = h.front ++ a; behind = h.behind; is = h.is ∙ ap (λ (l : List Token). h.front ++ l) (append_assoc a b h.behind) ∙ sym (append_assoc h.front a (b ++ h.behind)) }

pub each_stand : (text : List ℕ) → Each (StandIn text) (statements_of text)
each_stand text = statements_have (StandIn text) (stand_front text) (stand_behind text) (tokens_in text) (record { front = []; behind = []; is = sym (append-nil (tokens_in text)) })

no_rows : {X : Type 0} (form : Form X) (text : List ℕ) (xs : List (Located X)) → AreLocated form text [] xs → xs ≡ []
no_rows form text [] h = refl
no_rows form text (x ∷ xs) h = absurd h

no_length : {X : Type 0} (xs : List X) → length xs ≡ 0 → xs ≡ []
no_length [] e = refl
no_length (x ∷ xs) e = absurd cc

module _ (text : List ℕ) (t : DesignText) (r : IsDesignText text t) where
  pub body_is : r.body ≡ flat_map statements_in r.blocks
  body_is = r.framed.is ∙ append-nil (flat_map statements_in r.blocks)

  -- what holds of each statement of the text holds of those of its blocks
  in_blocks : (P : List Token → Type 0) → Each P (statements_of text) → Each P (flat_map statements_in r.blocks)
  in_blocks P h = subst (Each P) body_is (each_front P r.body (r.closed.end ∷ r.closed.behind) (subst (Each P) r.closed.is h))

  pub body_ended : Each IsEnded (flat_map statements_in r.blocks)
  body_ended = subst (Each IsEnded) body_is (all_ended (tokens_in text) r.body r.closed.behind r.closed.end (subst (IsStatementSplit (tokens_in text)) r.closed.is (statements_law (tokens_in text))))

  module _ (c : Changes) (once : AreOnce t) (fit : IsFit t c) (written : List ℕ) (ds : List Block) (beside : AreBeside text t c r.blocks ds) (inside : Each (AreIn written) (flat_map statements_in ds)) where
    is_once : IsOnce r.blocks
    is_once = once_of text r.blocks (subst (λ sections. (line : ℕ) → StandsAgain (section_rows sections) line → ⊥) r.sections once)

    one : (kind : SectionKind) → OneOf text t c kind r.blocks ds
    one kind = one_of text t c kind r.blocks ds is_once beside

    pub components_are : Read component (λ x. x) (map (λ x. x.statement) t.components) (within Components ds)
    components_are =
        elim (one Components) [
          | Absent a b ↦
              let none = no_rows component text t.components (subst (λ ss. AreLocated component text ss t.components) a r.components) in
              subst (λ xs. Read component (λ x. x) (map (λ x. x.statement) xs) (within Components ds)) (sym none) (none_read component (λ x. x) (within Components ds) (ap (map token_texts) b))
          | Found inner others a b words ↦
              subst (Read component (λ x. x) (map (λ x. x.statement) t.components)) (sym b)
              (same_read component component_by text inner others t.components (subst (λ ss. AreLocated component text ss t.components) a r.components) (subst (Each IsEnded) a (within_each IsEnded Components r.blocks body_ended)) words)
        ]

    pub pins_are : Read design_pin pin_value (changed_each with_word (pins_in t) c.pins) (within Pins ds)
    pins_are =
        elim (one Pins) [
          | Absent a b ↦
              let none = no_rows design_pin text t.pins (subst (λ ss. AreLocated design_pin text ss t.pins) a r.pins) in
              subst (λ xs. Read design_pin pin_value (changed_each with_word (map (λ p. pin_value p.statement) xs) c.pins) (within Pins ds)) (sym none) (none_read design_pin pin_value (within Pins ds) (ap (map token_texts) b))
          | Found inner others a b words ↦
              subst (Read design_pin pin_value (changed_each with_word (pins_in t) c.pins)) (sym b)
              (pins_read text inner others t.pins c.pins (subst (λ ss. AreLocated design_pin text ss t.pins) a r.pins) (subst (Each IsEnded) a (within_each IsEnded Pins r.blocks body_ended))
              (subst (Each Strict) a (within_each Strict Pins r.blocks (in_blocks Strict (each_strict text)))) fit.pins fit.words words)
        ]

    pub nets_are : Read net (net_in written) (changed_nets text t c) (within Nets ds)
    nets_are =
        elim (one Nets) [
          | Absent a b ↦
              let none = no_rows net text t.nets (subst (λ ss. AreLocated net text ss t.nets) a r.nets) in
              subst (λ xs. Read net (net_in written) (changed_each changed_net (map (λ n. net_in text n.statement) xs) c.nets) (within Nets ds)) (sym none) (none_read net (net_in written) (within Nets ds) (ap (map token_texts) b))
          | Found inner others a b words ↦
              subst (Read net (net_in written) (changed_nets text t c)) (sym b)
              (nets_read text written inner others t.nets c.nets (subst (λ ss. AreLocated net text ss t.nets) a r.nets) (subst (Each IsEnded) a (within_each IsEnded Nets r.blocks body_ended))
              (subst (Each (StandIn text)) a (within_each (StandIn text) Nets r.blocks (in_blocks (StandIn text) (each_stand text)))) (subst (Each (AreIn written)) b (within_each (AreIn written) Nets ds inside)) fit.nets fit.added words)
        ]

    pub chains_are : Read chain (λ x. x) (map read_chain c.chains) (within ScanChains ds)
    chains_are =
        elim (one ScanChains) [
          | Absent a b ↦
              let none = no_rows chain text t.chains (subst (λ ss. AreLocated chain text ss t.chains) a r.chains) in
              let no_chains : c.chains ≡ [] = no_length c.chains (fit.chains ∙ ap length none) in
              subst (λ cs. Read chain (λ x. x) (map read_chain cs) (within ScanChains ds)) (sym no_chains) (none_read chain (λ x. x) (within ScanChains ds) (ap (map token_texts) b))
          | Found inner others a b words ↦ subst (Read chain (λ x. x) (map read_chain c.chains)) (sym b) (chains_read c.chains others fit.well words)
        ]
