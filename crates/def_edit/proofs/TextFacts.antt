-- What holds of the statements of a text that is read.
use Rattle.std.proofs.Common.{◌≡◌, ℕ, false, List, [], ◌∷◌, length, map, refl, sym, ap, ◌∙◌, subst, All}
use Rattle.std.specs.List.{flat_map, list_any, AllByRecursion as Each}
use Rattle.std.proofs.lemmas.List.{length-map}
use Rattle.std.proofs.lemmas.List.Elements.{All-from_recursion}
use Rattle.std.proofs.lemmas.Option.{same_Some}
use Rattle.base_types.specs.declared.span.Span.{Span}
use Rattle.token_forms.specs.Tokens.{Token, place_of}
use Rattle.token_forms.specs.Runs.{bytes_of}
use Rattle.def_tokens.specs.DefTokens.{tokens_in}
use Rattle.def_syntax.specs.Grammar.{net}
use Rattle.def_syntax.specs.Frames.{Block, Outside, Section, within}
use Rattle.def_syntax.specs.Designs.{AreLocated, section_in, IsDesignText}
use Rattle.def_syntax.specs.declared.design.DesignText.{DesignText}
use Rattle.def_syntax.specs.declared.design.Located.{Located}
use Rattle.def_syntax.specs.declared.design.Section.{Section as SectionRow}
use Rattle.def_syntax.specs.declared.frame.SectionKind.TheVariants as kinds
use Rattle.def_syntax.specs.declared.net.Net.{Net}
use Rattle.def_syntax.specs.declared.net.NetStatement.{NetStatement}
use Rattle.def_syntax.specs.declared.net.NetStatement.TheVariants as net_statements
use Rattle.def_syntax.proofs.FrameLaws.{each_front}
use Rattle.def_syntax.proofs.Lawful.{net_statement}
use Rattle.def_layout.specs.Nets.{connection_in}
use Rattle.def_layout.specs.NetForms.{IsNetOf}
use Rattle.def_layout.specs.Slices.{StandIn, slice}
use Rattle.def_layout.proofs.NetLaw.{net_slice_law}
use Rattle.def_edit.proofs.alike.Contents.{each_stand, body_is}
use Rattle.def_edit.proofs.alike.Frames.{within_each}
use Rattle.cell_table.specs.Cells.{Cells}
use Rattle.def_reader.specs.declared.design.Design.{Design}
use Rattle.def_reader.specs.declared.design.ScanChainText.{ScanChainText}
use Rattle.def_reader.specs.Designs.{design_of}
use Rattle.def_reader.specs.Denoted.{DenotesDesign}
use Rattle.def_edit.specs.declared.chains.NewChain.{NewChain}
use Rattle.def_edit.specs.NewChains.{AreNewChains}
use Rattle.def_edit.specs.Lookups.{IsOwnNet, IsOwn, is_nets, HasSection}

-- tokens spell one net only
one_net : (ts : List Token) (x y : Net) → net.spells (net_statements.Net x) ts → net.spells (net_statements.Net y) ts → x ≡ y
one_net ts x y f g =
    let a = net_statement.lawful.read net_statement.clear (net_statements.Net x) ts [] f refl in
    let b = net_statement.lawful.read net_statement.clear (net_statements.Net y) ts [] g refl in
    let pairs = same_Some _ _ (sym a ∙ b) in
    let same : net_statements.Net x ≡ net_statements.Net y = ap (λ (p : NetStatement × List Token). p.0) pairs in
    cc

own_net : (text : List ℕ) (s : List Token) (span : Span) (n : NetStatement) → StandIn text s → net.spells n s → span ≡ place_of s → IsOwnNet text span n
own_net text s span net_statements.MustJoin stand spelled e = tt
own_net text s span (net_statements.Net x) stand spelled e =
    λ y read.
    let cut = net_slice_law text s x stand spelled in
    let here : IsNetOf (slice text s) y = subst (λ (p : Span). IsNetOf (bytes_of text p) y) e read in
    let same = one_net (tokens_in (slice text s)) y cut.value here cut.read in
    let so : (y.name ≡ x.name) × (map (connection_in (slice text s)) y.connections ≡ map (connection_in text) x.connections)
    = subst (λ (z : Net). (z.name ≡ x.name) × (map (connection_in (slice text s)) z.connections ≡ map (connection_in text) x.connections)) (sym same) (cut.named, cut.connections)
    in
    subst (λ (p : Span). (y.name ≡ x.name) × (map (connection_in (bytes_of text p)) y.connections ≡ map (connection_in text) x.connections)) (sym e) so

own_each : (text : List ℕ) (ss : List (List Token)) (ns : List (Located NetStatement)) → Each (StandIn text) ss → AreLocated net text ss ns → Each (IsOwn text) ns
own_each text [] [] stand h = tt
own_each text [] (n ∷ ns) stand h = absurd h
own_each text (s ∷ ss) [] stand h = tt
own_each text (s ∷ ss) (n ∷ ns) stand h = (own_net text s n.span n.statement stand.0 h.0.spelled h.0.span, own_each text ss ns stand.1 h.1)

-- a net's bytes are by themselves its statement
pub own_nets : (text : List ℕ) (t : DesignText) → IsDesignText text t → All (IsOwn text) t.nets
own_nets text t r =
    let body = each_front (StandIn text) r.body (r.closed.end ∷ r.closed.behind) (subst (Each (StandIn text)) r.closed.is (each_stand text)) in
    let blocks = subst (Each (StandIn text)) (body_is text t r) body in
    All-from_recursion (IsOwn text) t.nets (own_each text (within kinds.Nets r.blocks) t.nets (within_each (StandIn text) kinds.Nets r.blocks blocks) r.nets)

none_within : (text : List ℕ) (bs : List Block) → list_any (λ (s : SectionRow). is_nets s.kind) (flat_map (section_in text) bs) ≡ false → within kinds.Nets bs ≡ []
none_within text [] e = refl
none_within text (Outside s ∷ bs) e = none_within text bs e
none_within text (Section kinds.Components first inner last ∷ bs) e = none_within text bs e
none_within text (Section kinds.Pins first inner last ∷ bs) e = none_within text bs e
none_within text (Section kinds.Nets first inner last ∷ bs) e = absurd cc
none_within text (Section kinds.ScanChains first inner last ∷ bs) e = none_within text bs e

none_located : (text : List ℕ) (ns : List (Located NetStatement)) → AreLocated net text [] ns → ns ≡ []
none_located text [] h = refl
none_located text (n ∷ ns) h = absurd h

-- nets stand in NETS
pub has_section : (text : List ℕ) (t : DesignText) → IsDesignText text t → HasSection t
has_section text t r =
    λ none.
    let without = none_within text r.blocks (sym (ap (list_any (λ (s : SectionRow). is_nets s.kind)) r.sections) ∙ none) in
    none_located text t.nets (subst (λ ss. AreLocated net text ss t.nets) without r.nets)

many : (d : Design) (cs : List ScanChainText) (news : List NewChain) → AreNewChains d cs news → length news ≡ length cs
many d [] [] h = refl
many d [] (new ∷ news) h = absurd h
many d (c ∷ cs) [] h = absurd h
many d (c ∷ cs) (new ∷ news) h = let rest = many d cs news h.1 in cc

-- there is one new chain for each that stands
pub as_many : (text : List ℕ) (cells : Cells) (d : Design) (h : DenotesDesign text cells d) (news : List NewChain) → AreNewChains d d.chains news → length news ≡ length h.statements.chains
unfolding design_of
as_many text cells d h news are = many d d.chains news are ∙ ap (λ (x : Design). length x.chains) h.is ∙ length-map h.statements.chains _
