-- The words of the statements that were read.
use Rattle.std.proofs.Common.{◌≡◌, ℕ, ◌<◌, Bool, true, false, cond, not, ◌&&◌, ◌||◌, List, [], ◌∷◌, ◌++◌, length, codes, Option, Some, None, inl, inr, refl, sym, ap, ◌∙◌, subst, arith, append-nil}
use Rattle.std.specs.List.{flat_map, list_all, AllByRecursion as Each}
use Rattle.std.specs.Str.{bytes_eq}
use Rattle.std.proofs.lemmas.Bool.{and_from, and_parts}
use Rattle.std.proofs.lemmas.Option.{same_Some}
use Rattle.token_forms.specs.Tokens.{Token}
use Rattle.token_forms.specs.Parts.{token_texts}
use Rattle.token_forms.specs.Parsing.{◌>>=◌}
use Rattle.token_forms.specs.Classes.{But, is_among, is_in}
use Rattle.token_forms.specs.Forms.{Form, AreMany, IsMaybe, put_all}
use Rattle.def_tokens.specs.DefTokens.{is_black, has_end, tokens_in}
use Rattle.def_tokens.specs.DefSplit.{begins_run}
use Rattle.def_tokens.specs.DefStatements.{IsStatementSplit}
use Rattle.def_tokens.proofs.DefCuts.{statements_law}
use Rattle.def_syntax.specs.Words.{marks, name, cell_name}
use Rattle.def_syntax.specs.Grammar.{component, chain, clause, partition, terminal}
use Rattle.def_syntax.specs.OptionForms.{component_form, component_option}
use Rattle.def_syntax.proofs.OptionWords.{component_law}
use Rattle.def_syntax.specs.Pieces.{once, put_component, fresh_chain, put_clause, some_list}
use Rattle.def_syntax.specs.Pieces.{component_of as component_made, chain_of as chain_made}
use Rattle.def_syntax.specs.Options.{and_last}
use Rattle.def_syntax.specs.Frames.{statements_in}
use Rattle.def_syntax.specs.Designs.{AreLocated, IsDesignText}
use Rattle.def_syntax.specs.declared.design.DesignText.{DesignText}
use Rattle.def_syntax.specs.declared.design.Located.{Located}
use Rattle.def_syntax.specs.declared.chain.Chain.{Chain}
use Rattle.def_syntax.specs.declared.chain.Partition.{Partition}
use Rattle.def_syntax.specs.declared.chain.Terminal.{Terminal}
use Rattle.def_syntax.specs.declared.chain.Terminal.TheVariants as terminals
use Rattle.def_syntax.specs.declared.component.Component.{Component}
use Rattle.def_syntax.proofs.FrameLaws.{each_append, each_front, each_behind}
use Rattle.def_layout.specs.Words.{is_whole, is_cut, are_standing}
use Rattle.def_layout.specs.SectionForms.{is_name}
use Rattle.def_layout.proofs.NetTexts.{texts_are}
use Rattle.def_layout.proofs.NetThere.{texts_both}
use Rattle.def_layout.proofs.Standing.{standing_law}

-- a word before another one: it is whole, or has no blanks
abbrev pub IsRead : List ℕ → Type 0
IsRead w = (is_whole w || list_all is_black w) ≡ true

abbrev pub AreRead : List Token → Type 0
AreRead ts = Each (λ (t : Token). IsRead t.text) ts

-- a statement behind which others stand
pub record IsSeen (s : List Token) : Type 0 where
  pub read : AreRead s
  pub stands : are_standing (token_texts s) ≡ true

stand_front : (xs ys : List (List ℕ)) → are_standing (xs ++ ys) ≡ true → are_standing xs ≡ true
stand_front [] ys h = refl
stand_front (w ∷ []) ys h = refl
stand_front (w ∷ v ∷ ws) ys h =
    let b = and_parts (is_whole w || (is_cut w && bytes_eq v (codes ";"))) (are_standing (v ∷ (ws ++ ys))) h in
    and_from (is_whole w || (is_cut w && bytes_eq v (codes ";"))) (are_standing (v ∷ ws)) b.0 (stand_front (v ∷ ws) ys b.1)

stand_behind : (xs ys : List (List ℕ)) → are_standing (xs ++ ys) ≡ true → are_standing ys ≡ true
stand_behind [] ys h = h
stand_behind (w ∷ []) [] h = refl
stand_behind (w ∷ []) (v ∷ ys) h = (and_parts (is_whole w || (is_cut w && bytes_eq v (codes ";"))) (are_standing (v ∷ ys)) h).1
stand_behind (w ∷ v ∷ ws) ys h = stand_behind (v ∷ ws) ys (and_parts (is_whole w || (is_cut w && bytes_eq v (codes ";"))) (are_standing (v ∷ (ws ++ ys))) h).1

run_black : (a g b e v : Bool) → (a || (((g && b) && e) && v)) ≡ true → (a || b) ≡ true
run_black true g b e v h = refl
run_black false true true e v h = refl
run_black false true false e v h = absurd cc
run_black false false b e v h = absurd cc

read_of : (w v : List ℕ) → (is_whole w || (is_cut w && bytes_eq v (codes ";"))) ≡ true → IsRead w
read_of w v h = run_black (is_whole w) (begins_run w) (list_all is_black w) (has_end w) (bytes_eq v (codes ";")) h

read_before : (ts : List Token) (u : Token) (us : List Token) → are_standing (token_texts ts ++ u.text ∷ token_texts us) ≡ true → AreRead ts
read_before [] u us h = tt
read_before (t ∷ []) u us h = (read_of t.text u.text (and_parts (is_whole t.text || (is_cut t.text && bytes_eq u.text (codes ";"))) (are_standing (u.text ∷ token_texts us)) h).0, tt)
read_before (t ∷ v ∷ ts) u us h =
    let b = and_parts (is_whole t.text || (is_cut t.text && bytes_eq v.text (codes ";"))) (are_standing (v.text ∷ (token_texts ts ++ u.text ∷ token_texts us))) h in
    (read_of t.text v.text b.0, read_before (v ∷ ts) u us b.1)

none_first : (x rest : List Token) → 0 < length x → [] ≡ x ++ rest → ⊥
none_first [] rest some e = absurd (omega arith)
none_first (t ∷ x) rest some e = absurd cc

first_read : (s rest : List Token) (ys more : List (List Token)) (last : List Token) → IsStatementSplit rest (ys ++ last ∷ more) → are_standing (token_texts s ++ token_texts rest) ≡ true → AreRead s
first_read s [] [] more last h e = absurd (none_first last h.0.rest h.0.some h.0.is)
first_read s [] (y ∷ ys) more last h e = absurd (none_first y h.0.rest h.0.some h.0.is)
first_read s (u ∷ us) ys more last h e = read_before s u us e

all_seen : (ts : List Token) (ss more : List (List Token)) (last : List Token) → IsStatementSplit ts (ss ++ last ∷ more) → are_standing (token_texts ts) ≡ true → Each IsSeen ss
all_seen ts [] more last h e = tt
all_seen ts (s ∷ ss) more last h e =
    let cut : are_standing (token_texts s ++ token_texts h.0.rest) ≡ true = sym (ap are_standing (ap token_texts h.0.is ∙ texts_both s h.0.rest)) ∙ e in (
      record { read = first_read s h.0.rest ss more last h.1 cut; stands = stand_front (token_texts s) (token_texts h.0.rest) cut },
      all_seen h.0.rest ss more last h.1 (stand_behind (token_texts s) (token_texts h.0.rest) cut),
    )

-- the statements of the text's blocks
pub body_seen : (text : List ℕ) (t : DesignText) (r : IsDesignText text t) → Each IsSeen (flat_map statements_in r.blocks)
body_seen text t r =
    let is : r.body ≡ flat_map statements_in r.blocks = r.framed.is ∙ append-nil (flat_map statements_in r.blocks) in
    subst (Each IsSeen) is
    (all_seen (tokens_in text) r.body r.closed.behind r.closed.end (subst (IsStatementSplit (tokens_in text)) r.closed.is (statements_law (tokens_in text))) (sym (ap are_standing (texts_are text)) ∙ standing_law text))

-- what holds of each value that a statement spells
pub located_each : {X : Type 0} (form : Form X) (text : List ℕ) (P : X → Type 0) (Q : List Token → Type 0) → ((x : X) (s : List Token) → Q s → form.spells x s → P x)
    → (ss : List (List Token)) (xs : List (Located X)) → Each Q ss → AreLocated form text ss xs → Each (λ (x : Located X). P x.statement) xs
located_each form text P Q tell [] [] all h = tt
located_each form text P Q tell [] (x ∷ xs) all h = absurd h
located_each form text P Q tell (s ∷ ss) [] all h = absurd h
located_each form text P Q tell (s ∷ ss) (x ∷ xs) all h = (tell x.statement s all.0 h.0.spelled, located_each form text P Q tell ss xs all.1 h.1)

-- names

abbrev pub IsWord : List ℕ → Type 0
IsWord w = (is_in (But marks) w ≡ true) × IsRead w

name_read : (w : List ℕ) (ts : List Token) → AreRead ts → name.spells w ts → IsWord w
name_read w ts all h = (h.kind_is, subst IsRead h.text (subst AreRead h.is all).0)

front_read : (ts a b : List Token) → ts ≡ a ++ b → AreRead ts → AreRead a
front_read ts a b e all = each_front (λ (t : Token). IsRead t.text) a b (subst AreRead e all)

back_read : (ts a b : List Token) → ts ≡ a ++ b → AreRead ts → AreRead b
back_read ts a b e all = each_behind (λ (t : Token). IsRead t.text) a b (subst AreRead e all)

-- a component's name is no PIN
abbrev pub IsCellWord : List ℕ → Type 0
IsCellWord w = IsWord w × (bytes_eq w (codes "PIN") ≡ false)

cell_read : (w : List ℕ) (ts : List Token) → AreRead ts → cell_name.spells w ts → IsCellWord w
cell_read w ts all h =
    let n = neither (bytes_eq w (codes "PIN")) (is_among marks w) h.kind_is in
    ((n.1, subst IsRead h.text (subst AreRead h.is all).0), n.0)
  where
    neither : (a b : Bool) → not (a || b) ≡ true → (a ≡ false) × (not b ≡ true)
    neither true b e = absurd cc
    neither false b e = (refl, e)

-- the pieces of a chain

abbrev pub IsEnd : Terminal → Type 0
IsEnd (terminals.AtPin pin) = IsWord pin
IsEnd (terminals.AtCell component pin) = IsCellWord component

abbrev pub IsEndIf : Option Terminal → Type 0
IsEndIf None = Unit {0}
IsEndIf (Some t) = IsEnd t

abbrev pub IsPartIf : Option Partition → Type 0
IsPartIf None = Unit {0}
IsPartIf (Some p) = IsWord p.name

terminal_read : (t : Terminal) (ts : List Token) → AreRead ts → terminal.spells t ts → IsEnd t
unfolding terminal
terminal_read t ts all h = elim h [
  | inl m ↦
      let k = m.holds in
      let s = k.holds in
      subst IsEnd (ap terminals.AtPin k.is ∙ m.is) (name_read k.parts.1 s.back (back_read ts s.front s.back s.is all) s.second)
  | inr m ↦
      let s = m.holds in
      subst IsEnd m.is (cell_read m.parts.0 s.front (front_read ts s.front s.back s.is all) s.first)
]

partition_read : (p : Partition) (ts : List Token) → AreRead ts → partition.spells p ts → IsWord p.name
unfolding partition
partition_read p ts all h =
    let a = h.holds in
    let s = a.holds in
    let b = s.second in
    let behind = back_read ts s.front s.back s.is all in
    let is : a.parts.1.0 ≡ p.name = ap (λ (q : _). q.0) a.is ∙ ap (λ (x : Partition). x.name) h.is in
    subst IsWord is (name_read a.parts.1.0 b.front (front_read s.back b.front b.back b.is behind) b.first)

-- the types of the pieces

abbrev first_type : {A B : Type 0} → (A → B) → Type 0
first_type {A} f = A

abbrev second_type : {A B C : Type 0} → (A → B → C) → Type 0
second_type {B = B} f = B

abbrev SoFar : Type 0
SoFar = first_type chain_made

abbrev Clause : Type 0
Clause = second_type put_clause

record IsSoFar (s : SoFar) : Type 0 where
  name : is_name s.name ≡ true
  partition : IsPartIf s.partition
  start : IsEndIf s.start
  stop : IsEndIf s.stop

once_some : {X S : Type 0} (o : Option X) (s t : S) → once o s ≡ Some t → s ≡ t
once_some None s t e = cc
once_some (Some x) s t e = absurd cc

unless_some : {S : Type 0} (b : Bool) (s t : S) → cond b None (Some s) ≡ Some t → s ≡ t
unless_some true s t e = absurd cc
unless_some false s t e = cc

-- a clause that is put to good pieces leaves them good
abbrev IsClause : Clause → Type 0
IsClause c = (s t : SoFar) → IsSoFar s → put_clause s c ≡ Some t → IsSoFar t

clause_read : (c : Clause) (ts : List Token) → AreRead ts → clause.spells c ts → IsClause c
unfolding clause
clause_read c ts all h =
    let s = h.holds in
    let behind = back_read ts s.front s.back s.is all in
    subst IsClause h.is
    (elim s.second [
      | inl p ↦ subst IsClause p.is (λ u t g e. subst IsSoFar (once_some u.partition _ t e) (record { name = g.name; partition = partition_read p.parts s.back behind p.holds; start = g.start; stop = g.stop }))
      | inr (inl p) ↦ subst IsClause p.is (λ u t g e. subst IsSoFar (once_some u.common_pins _ t e) (record { name = g.name; partition = g.partition; start = g.start; stop = g.stop }))
      | inr (inr (inl p)) ↦
          let k = p.holds in
          let end = subst IsEnd k.is (terminal_read k.parts.1 k.holds.back (back_read s.back k.holds.front k.holds.back k.holds.is behind) k.holds.second) in
          subst IsClause p.is (λ u t g e. subst IsSoFar (once_some u.start _ t e) (record { name = g.name; partition = g.partition; start = end; stop = g.stop }))
      | inr (inr (inr (inl p))) ↦
          let k = p.holds in
          let end = subst IsEnd k.is (terminal_read k.parts.1 k.holds.back (back_read s.back k.holds.front k.holds.back k.holds.is behind) k.holds.second) in
          subst IsClause p.is (λ u t g e. subst IsSoFar (once_some u.stop _ t e) (record { name = g.name; partition = g.partition; start = g.start; stop = end }))
      | inr (inr (inr (inr p))) ↦ subst IsClause p.is (λ u t g e. subst IsSoFar (unless_some _ _ t e) (record { name = g.name; partition = g.partition; start = g.start; stop = g.stop }))
    ])

clauses_read : (cs : List Clause) (ts : List Token) → AreRead ts → AreMany clause.spells cs ts → Each IsClause cs
clauses_read [] ts all h = tt
clauses_read (c ∷ cs) ts all h = (clause_read c h.front (front_read ts h.front h.back h.is all) h.first, clauses_read cs h.back (back_read ts h.front h.back h.is all) h.second)

record Bound {S T : Type 0} (o : Option S) (f : S → Option T) (r : T) : Type 0 where
  value : S
  is : o ≡ Some value
  gives : f value ≡ Some r

bound : {S T : Type 0} (o : Option S) (f : S → Option T) (r : T) → (o >>= f) ≡ Some r → Bound o f r
bound None f r e = absurd cc
bound (Some s) f r e = record { value = s; is = refl; gives = e }

puts_read : (s : SoFar) (cs : List Clause) (t : SoFar) → IsSoFar s → Each IsClause cs → put_all put_clause s cs ≡ Some t → IsSoFar t
unfolding put_all
puts_read s [] t h g e = let same : s ≡ t = cc in subst IsSoFar same h
puts_read s (c ∷ cs) t h g e =
    let b = bound (put_clause s c) (λ u. put_all put_clause u cs) t e in
    puts_read b.value cs t (g.0 s b.value h b.is) g.1 b.gives

-- a chain's words
pub record IsChain (c : Chain) : Type 0 where
  pub name : is_name c.name ≡ true
  pub partition : IsPartIf c.partition
  pub start : IsEnd c.start
  pub stop : IsEnd c.stop

made_chain : (s : SoFar) (c : Chain) → IsSoFar s → chain_made s ≡ Some c → IsChain c
made_chain s c h e = step s.start s.stop (some_list s.lists) h.start h.stop e
  where
    step : (a b : Option Terminal) (l : Bool) → IsEndIf a → IsEndIf b
        → (a >>= λ start. b >>= λ stop. cond l (Some (record { name = s.name; partition = s.partition; common_pins = s.common_pins; start = start; stop = stop; lists = s.lists })) None) ≡ Some c → IsChain c
    step None b l f g e = absurd cc
    step (Some x) None l f g e = absurd cc
    step (Some x) (Some y) false f g e = absurd cc
    step (Some x) (Some y) true f g e = subst IsChain (same_Some _ c e) (record { name = h.name; partition = h.partition; start = f; stop = g })

off_first : (a b c : Bool) → c ≡ false → (a || (b && c)) ≡ true → a ≡ true
off_first true b c e h = refl
off_first false true c e h = sym e ∙ h
off_first false false c e h = h

-- a word before another one that is no semicolon is whole
seen_whole : (s : List Token) (a b c : Token) (rest : List Token) → IsSeen s → s ≡ a ∷ b ∷ c ∷ rest → bytes_eq c.text (codes ";") ≡ false → is_whole b.text ≡ true
seen_whole s a b c rest seen e off =
    let all = subst (λ (ts : List Token). are_standing (token_texts ts) ≡ true) e seen.stands in
    let x = and_parts (is_whole a.text || (is_cut a.text && bytes_eq b.text (codes ";"))) (are_standing (b.text ∷ c.text ∷ token_texts rest)) all in
    let y = and_parts (is_whole b.text || (is_cut b.text && bytes_eq c.text (codes ";"))) (are_standing (c.text ∷ token_texts rest)) x.1 in
    off_first (is_whole b.text) (is_cut b.text) (bytes_eq c.text (codes ";")) off y.0

record BeginsPlus (ts : List Token) : Type 0 where
  token : Token
  rest : List Token
  is : ts ≡ token ∷ rest
  text : token.text ≡ codes "+"

-- a chain has a clause
some_clause : (cs : List Clause) (n : List ℕ) (s r : SoFar) (c : Chain) (ts : List Token) → fresh_chain n ≡ s → put_all put_clause s cs ≡ Some r → chain_made r ≡ Some c → AreMany clause.spells cs ts → BeginsPlus ts
unfolding put_all clause
some_clause [] n s r c ts f p e h = let no : None ≡ Some c = ap chain_made (f ∙ same_Some s r p) ∙ e in absurd cc
some_clause (x ∷ cs) n s r c ts f p e h =
    let a = h.first.holds in
    record {
      token = a.first.token;
      rest = a.back ++ h.back;
      is = h.is ∙ ap (λ (l : List Token). l ++ h.back) (a.is ∙ ap (λ (l : List Token). l ++ a.back) a.first.is);
      text = a.first.text;
    }

pub chain_seen : (c : Chain) (s : List Token) → IsSeen s → chain.spells c s → IsChain c
unfolding chain
chain_seen c s seen h =
    let m = h.holds in
    let sp = m.holds in
    let g = sp.first in
    let gs = g.holds in
    let st = gs.first in
    let d = st.holds in
    let ds = d.holds in
    let made : chain_made m.parts.0 ≡ Some c = ap chain_made m.is ∙ h.is in
    let front = front_read s sp.front sp.back sp.is seen.read in
    let plus = some_clause g.parts.1 st.parts g.parts.0 m.parts.0 c gs.back st.is g.is made gs.second in
    let shape : s ≡ ds.first.token ∷ ds.second.token ∷ plus.token ∷ (plus.rest ++ sp.back) =
    sp.is ∙ ap (λ (l : List Token). l ++ sp.back) (gs.is ∙ ap (λ (l : List Token). l ++ gs.back) (ds.is ∙ ap (λ (l : List Token). l ++ ds.back) ds.first.is ∙ ap (λ (l : List Token). ds.first.token ∷ l) ds.second.is)
    ∙ ap (λ (l : List Token). ds.first.token ∷ ds.second.token ∷ l) plus.is)
    in
    let off : bytes_eq plus.token.text (codes ";") ≡ false = ap (λ (w : List ℕ). bytes_eq w (codes ";")) plus.text in
    let whole = seen_whole s ds.first.token ds.second.token plus.token (plus.rest ++ sp.back) seen shape off in
    let named : is_name st.parts ≡ true =
    subst (λ (w : List ℕ). is_name w ≡ true) d.is (and_from (is_whole d.parts.1) (is_in (But marks) d.parts.1) (subst (λ (w : List ℕ). is_whole w ≡ true) ds.second.text whole) ds.second.kind_is)
    in
    let start = subst IsSoFar st.is (record { name = named; partition = tt; start = tt; stop = tt }) in
    let all = clauses_read g.parts.1 gs.back (back_read sp.front gs.front gs.back gs.is front) gs.second in
    made_chain m.parts.0 c (puts_read g.parts.0 g.parts.1 m.parts.0 start all g.is) made

-- the words of a component

abbrev ComponentSoFar : Type 0
ComponentSoFar = first_type component_made

abbrev ComponentOption : Type 0
ComponentOption = second_type put_component

abbrev IsNamed : ComponentSoFar → Type 0
IsNamed s = is_name s.name ≡ true

abbrev KeepsName : ComponentOption → Type 0
KeepsName o = (s t : ComponentSoFar) → IsNamed s → put_component s o ≡ Some t → IsNamed t

option_keeps : (closed : Bool) (o : ComponentOption) (ts : List Token) → (component_option closed).spells o ts → KeepsName o
unfolding component_option
option_keeps closed o ts h =
    subst KeepsName h.is
    (elim h.holds.second [
      | inl p ↦ subst KeepsName p.is (λ s t g e. subst IsNamed (same_Some _ t e) g)
      | inr (inl p) ↦ subst KeepsName p.is (λ s t g e. subst IsNamed (same_Some _ t e) g)
      | inr (inr p) ↦ subst KeepsName p.is (λ s t g e. subst IsNamed (same_Some _ t e) g)
    ])

many_keep : (closed : Bool) (os : List ComponentOption) (ts : List Token) → AreMany (component_option closed).spells os ts → Each KeepsName os
many_keep closed [] ts h = tt
many_keep closed (o ∷ os) ts h = (option_keeps closed o h.front h.first, many_keep closed os h.back h.second)

last_keeps : (closed : Bool) (os : List ComponentOption) (last : Option ComponentOption) (ts : List Token) → Each KeepsName os → IsMaybe (component_option closed).spells last ts → Each KeepsName (and_last os last)
last_keeps closed os None ts all h = all
last_keeps closed os (Some o) ts all h = each_append KeepsName os (o ∷ []) all (option_keeps closed o ts h, tt)

puts_keep : (s : ComponentSoFar) (os : List ComponentOption) (t : ComponentSoFar) → IsNamed s → Each KeepsName os → put_all put_component s os ≡ Some t → IsNamed t
unfolding put_all
puts_keep s [] t h g e = subst IsNamed (same_Some s t e) h
puts_keep s (o ∷ os) t h g e =
    let b = bound (put_component s o) (λ u. put_all put_component u os) t e in
    puts_keep b.value os t (g.0 s b.value h b.is) g.1 b.gives

no_semicolon : (a b c d : Bool) → not (a || (b || (c || (d || false)))) ≡ true → d ≡ false
no_semicolon true b c d h = absurd cc
no_semicolon false true c d h = absurd cc
no_semicolon false false true d h = absurd cc
no_semicolon false false false true h = absurd cc
no_semicolon false false false false h = refl

component_seen_form : (x : Component) (s : List Token) → IsSeen s → component_form.spells x s → is_name x.name ≡ true
unfolding component_form
component_seen_form x s seen h =
    let m = h.holds in
    let sp = m.holds in
    let g = sp.first in
    let gs = g.holds in
    let st = gs.first in
    let d = st.holds in
    let ds = d.holds in
    let nn = ds.second in
    let os = gs.second.holds in
    let shape : s ≡ ds.first.token ∷ nn.first.token ∷ nn.second.token ∷ (gs.back ++ sp.back) =
    sp.is ∙ ap (λ (l : List Token). l ++ sp.back) (gs.is ∙ ap (λ (l : List Token). l ++ gs.back) (ds.is ∙ ap (λ (l : List Token). l ++ ds.back) ds.first.is
    ∙ ap (λ (l : List Token). ds.first.token ∷ l) (nn.is ∙ ap (λ (l : List Token). l ++ nn.back) nn.first.is ∙ ap (λ (l : List Token). nn.first.token ∷ l) nn.second.is)))
    in
    let cell = nn.second.token.text in
    let kind : is_in (But marks) cell ≡ true = subst (λ (w : List ℕ). is_in (But marks) w ≡ true) (sym nn.second.text) nn.second.kind_is in
    let off = no_semicolon (bytes_eq cell (codes "(")) (bytes_eq cell (codes ")")) (bytes_eq cell (codes "+")) (bytes_eq cell (codes ";")) kind in
    let whole = seen_whole s ds.first.token nn.first.token nn.second.token (gs.back ++ sp.back) seen shape off in
    let named : is_name d.parts.1.0 ≡ true =
    and_from (is_whole d.parts.1.0) (is_in (But marks) d.parts.1.0) (subst (λ (w : List ℕ). is_whole w ≡ true) nn.first.text whole) nn.first.kind_is
    in
    let fresh : is_name st.parts.0 ≡ true = subst (λ (w : List ℕ). is_name w ≡ true) (ap (λ (p : List ℕ × List ℕ). p.0) d.is) named in
    let start : IsNamed g.parts.0 = subst IsNamed st.is fresh in
    let all = subst (Each KeepsName) gs.second.is (last_keeps false gs.second.parts.0 gs.second.parts.1 os.back (many_keep true gs.second.parts.0 os.front os.first) os.second) in
    let kept = puts_keep g.parts.0 g.parts.1 m.parts.0 start all g.is in
    subst (λ (c : Component). is_name c.name ≡ true) h.is (subst IsNamed m.is kept)

pub component_seen : (x : Component) (s : List Token) → IsSeen s → component.spells x s → is_name x.name ≡ true
unfolding component
component_seen x s seen h = component_seen_form x s seen (component_law.back x s h)
