-- What the reader finds in a head's text is what the definitions say of it.
use Rattle.std.proofs.Common.{◌≡◌, ◌≤◌, ℕ, Bool, true, List, length, take, Option, Some, None, refl, sym, ap, subst, ◌∙◌, map, codes}
use Rattle.std.specs.Option.{unwrap_or}
use Rattle.std.proofs.lemmas.List.{length-take-le}
use Rattle.stil_parts.specs.declared.gap.Comment.TheVariants.{Outside}
use Rattle.stil_parts.specs.Heads.{head_end}
use Rattle.stil_head.specs.Ends.{head_text}
use Rattle.std.specs.List.{flat_map, list_any}
use Rattle.token_forms.specs.Tokens.{Token}
use Rattle.stil_tokens.specs.StilTokens.{tokens_in}
use Rattle.stil_types.specs.declared.head.StilHead.{StilHead}
use Rattle.stil_types.specs.declared.head.ScanChainDecl.{ScanChainDecl}
use Rattle.stil_types.specs.declared.head.Callee.{Callee}
use Rattle.stil_syntax.specs.Shapes.{body_statements}
use Rattle.stil_blocks.specs.declared.chain.ReadChain.{ReadChain}
use Rattle.stil_blocks.specs.declared.callee.ReadCallee.{ReadCallee}
use Rattle.list_laws.specs.Leasts.{least_of}
use Rattle.stil_blocks.specs.Chains.{structure_chains, chains_of}
use Rattle.stil_blocks.specs.Callees.{block_callees, callees_of, statement_keywords, keywords_of}
use Rattle.stil_head.specs.Twice.{twice_among, twice_places}
use Rattle.stil_head.specs.Unsupported.{unsupported_in, unsupported_places}
use Rattle.std.specs.Prelude.{Result, Ok, Err, IfOk, OnOk}
use Rattle.base_types.specs.declared.fault.ReadFault.{ReadFault}
use Rattle.base_types.specs.declared.fault.ReadFault.TheVariants as read_faults
use Rattle.base_types.specs.FirstFault.{IsFirstFault, IfFault}
use Rattle.base_types.specs.declared.fault.Fault.{Fault}
use Rattle.stil_head.specs.Faults.{syntax_in, syntax_places, HoldsInText}
use Rattle.stil_head.proofs.HeadFaults.{twice_first, barred_first, none, once, fit, no_fault}
use Rattle.stil_head.specs.Heads.{IsHead, DenotesHead, SaysAll, IsLeftFault, Again, Left}

module _ (text : List ℕ) (tokens : List Token) (is : tokens ≡ tokens_in text) where
  pub syntax_is : (lines : List ℕ) (o : Option ℕ) → lines ≡ text → o ≡ least_of (syntax_in lines (body_statements tokens)) → least_of (syntax_places text) ≡ o
  syntax_is lines o same e = sym (e ∙ ap (λ (l : List ℕ). least_of (syntax_in l (body_statements tokens))) same ∙ ap (λ (ts : List Token). least_of (syntax_in text (body_statements ts))) is)

  pub chains_is : (lines : List ℕ) (cs : List ReadChain) → lines ≡ text → cs ≡ flat_map (structure_chains lines) (body_statements tokens) → cs ≡ chains_of text
  chains_is lines cs same e = e ∙ ap (λ (l : List ℕ). flat_map (structure_chains l) (body_statements tokens)) same ∙ ap (λ (ts : List Token). flat_map (structure_chains text) (body_statements ts)) is

  pub callees_is : (word : List ℕ) (cs : List ReadCallee) → cs ≡ flat_map (block_callees word) (body_statements tokens) → cs ≡ callees_of word text
  callees_is word cs e = e ∙ ap (λ (ts : List Token). flat_map (block_callees word) (body_statements ts)) is

  pub keywords_is : (names : List (List ℕ)) → names ≡ flat_map statement_keywords (body_statements tokens) → names ≡ keywords_of text
  keywords_is names e = e ∙ ap (λ (ts : List Token). flat_map statement_keywords (body_statements ts)) is

  module _ (cs : List ReadChain) (ps ms : List ReadCallee) (chains : cs ≡ chains_of text) (procedures : ps ≡ callees_of (codes "Procedures") text) (macros : ms ≡ callees_of (codes "MacroDefs") text) where
    pub twice_is : (ds : List ReadChain) (qs ns : List ReadCallee) (o : Option ℕ) → ds ≡ cs → qs ≡ ps → ns ≡ ms → o ≡ least_of (twice_among ds qs ns) → least_of (twice_places text) ≡ o
    twice_is ds qs ns o a b d e =
        sym (e ∙ ap (λ (l : List ReadChain). least_of (twice_among l qs ns)) (a ∙ chains) ∙ ap (λ (l : List ReadCallee). least_of (twice_among (chains_of text) l ns)) (b ∙ procedures)
        ∙ ap (λ (l : List ReadCallee). least_of (twice_among (chains_of text) (callees_of (codes "Procedures") text) l)) (d ∙ macros))

    pub barred_is : (ds : List ReadChain) (qs ns : List ReadCallee) (o : Option ℕ) → ds ≡ cs → qs ≡ ps → ns ≡ ms → o ≡ least_of (unsupported_in ds qs ns (body_statements tokens)) → least_of (unsupported_places text) ≡ o
    barred_is ds qs ns o a b d e =
        sym (e ∙ ap (λ (l : List ReadChain). least_of (unsupported_in l qs ns (body_statements tokens))) (a ∙ chains)
        ∙ ap (λ (l : List ReadCallee). least_of (unsupported_in (chains_of text) l ns (body_statements tokens))) (b ∙ procedures)
        ∙ ap (λ (l : List ReadCallee). least_of (unsupported_in (chains_of text) (callees_of (codes "Procedures") text) l (body_statements tokens))) (d ∙ macros)
        ∙ ap (λ (ts : List Token). least_of (unsupported_in (chains_of text) (callees_of (codes "Procedures") text) (callees_of (codes "MacroDefs") text) (body_statements ts))) is)

-- what is left once no statement is of no form
module _ (text : List ℕ) (tokens : List Token) (is : tokens ≡ tokens_in text) (cs : List ReadChain) (ps ms : List ReadCallee) (chains : cs ≡ chains_of text) (procedures : ps ≡ callees_of (codes "Procedures") text)
    (macros : ms ≡ callees_of (codes "MacroDefs") text) (no_syntax : least_of (syntax_places text) ≡ None) where
  twice_of : (o : Option ℕ) → least_of (twice_among cs ps ms) ≡ o → least_of (twice_places text) ≡ o
  twice_of o e = twice_is text tokens is cs ps ms chains procedures macros cs ps ms o refl refl refl (sym e)

  barred_of : (o : Option ℕ) → least_of (unsupported_in cs ps ms (body_statements tokens)) ≡ o → least_of (unsupported_places text) ≡ o
  barred_of o e = barred_is text tokens is cs ps ms chains procedures macros cs ps ms o refl refl refl (sym e)

  pub left_first : (f : Fault) → IsLeftFault text cs ps ms (body_statements tokens) f → IsFirstFault (HoldsInText text) f
  left_first _ (Again place e) = twice_first text no_syntax place (twice_of (Some place) e)
  left_first _ (Left place none e) = barred_first text no_syntax (twice_of None none) place (barred_of (Some place) e)

  module _ (head : StilHead) (says : SaysAll text cs ps ms (body_statements tokens) head) where
    pub says_head : IsHead text head
    says_head = record {
      no_syntax = none text no_syntax;
      no_twice = once text no_syntax (twice_of None says.no_twice);
      no_unsupported = fit text no_syntax (twice_of None says.no_twice) (barred_of None says.no_unsupported);
      chains = says.chains_are ∙ ap (λ (l : List ReadChain). map {B = ScanChainDecl} (λ c. c.decl) l) chains;
      procedures = says.procedures_are ∙ ap (λ (l : List ReadCallee). map {B = Callee} (λ c. c.callee) l) procedures;
      macros = says.macros_are ∙ ap (λ (l : List ReadCallee). map {B = Callee} (λ c. c.callee) l) macros;
      keywords = keywords_is text tokens is head.keywords says.keywords;
      marks = says.marks ∙ ap (λ (l : List ReadChain). list_any (λ c. c.marks) l) chains;
    }

    pub says_none : (f : Fault) → HoldsInText text f → ⊥
    says_none f holds = no_fault text no_syntax (twice_of None says.no_twice) (barred_of None says.no_unsupported) f holds

-- a head that is denoted is the only one
said : List ScanChainDecl → List Callee → List Callee → List (List ℕ) → Bool → ℕ → StilHead
said cs ps ms ks marks end = record { chains = cs; procedures = ps; macros = ms; keywords = ks; marks = marks; end = end }

pub only_text : (text : List ℕ) (a b : StilHead) → IsHead text a → IsHead text b → b.end ≡ a.end → b ≡ a
unfolding said
only_text text a b p q end =
    ap (λ (x : List ScanChainDecl). said x b.procedures b.macros b.keywords b.marks b.end) (q.chains ∙ sym p.chains)
    ∙ ap (λ (x : List Callee). said a.chains x b.macros b.keywords b.marks b.end) (q.procedures ∙ sym p.procedures)
    ∙ ap (λ (x : List Callee). said a.chains a.procedures x b.keywords b.marks b.end) (q.macros ∙ sym p.macros)
    ∙ ap (λ (x : List (List ℕ)). said a.chains a.procedures a.macros x b.marks b.end) (q.keywords ∙ sym p.keywords)
    ∙ ap (λ (x : Bool). said a.chains a.procedures a.macros a.keywords x b.end) (q.marks ∙ sym p.marks)
    ∙ ap (λ (x : ℕ). said a.chains a.procedures a.macros a.keywords a.marks x) end

pub only_head : (bytes : List ℕ) (a b : StilHead) → DenotesHead bytes a → DenotesHead bytes b → b ≡ a
only_head bytes a b p q =
    let ends = sym q.ends ∙ p.ends in
    let end : b.end ≡ a.end = cc in
    only_text _ a b p.says q.says end

-- what an answer says, said otherwise
pub if_fault_weaker : {X : Type 0} (r : Result X ReadFault) (P Q : Fault → Type 0) → ((f : Fault) → P f → Q f) → IfFault r P → IfFault r Q
if_fault_weaker (Ok x) P Q more h = tt
if_fault_weaker (Err (read_faults.Fault f)) P Q more h = more f h
if_fault_weaker (Err read_faults.NoMemory) P Q more h = tt

pub if_ok_weaker : {X E : Type 0} (r : Result X E) (P Q : X → Type 0) → ((x : X) → P x → Q x) → IfOk r P → IfOk r Q
if_ok_weaker (Ok x) P Q more h = more x h
if_ok_weaker (Err e) P Q more h = tt

pub on_ok_then : {X E : Type 0} (r : Result X E) (P : X → Type 0) (Q : Type 0) → ((x : X) → P x → Q) → IfOk r P → OnOk r Q
on_ok_then (Ok x) P Q more h = more x h
on_ok_then (Err e) P Q more h = tt

pub if_ok_both : {X E : Type 0} (r : Result X E) (P Q R : X → Type 0) → ((x : X) → P x → Q x → R x) → IfOk r P → IfOk r Q → IfOk r R
if_ok_both (Ok x) P Q R more h k = more x h k
if_ok_both (Err e) P Q R more h k = tt

-- the bytes before the head's end
pub text_is : (bytes : List ℕ) (n : ℕ) → head_end true Outside 0 bytes ≡ Some n → take n bytes ≡ head_text bytes
text_is bytes n e = ap (λ (o : Option ℕ). take (unwrap_or o (length bytes)) bytes) (sym e)

pub denoted_by : (bytes : List ℕ) (n : ℕ) (head : StilHead) → head_end true Outside 0 bytes ≡ Some n → n ≤ length bytes → IsHead (take n bytes) head → head.end ≡ length (take n bytes) → DenotesHead bytes head
denoted_by bytes n head e within says end =
    let len : length (take n bytes) ≡ n = length-take-le n bytes within in
    record { ends = e ∙ ap (λ (m : ℕ). Some m) (sym (end ∙ len)); says = subst (λ (t : List ℕ). IsHead t head) (text_is bytes n e) says }
