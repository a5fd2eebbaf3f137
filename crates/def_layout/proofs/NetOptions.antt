-- The words of a net's options that stay.
use Rattle.std.proofs.Common.{◌≡◌, ℕ, eqb, Bool, true, false, not, ◌&&◌, ◌||◌, if◌then◌else◌, List, [], ◌∷◌, ◌++◌, map, refl, sym, ap, ◌∙◌, subst, append_assoc, codes, Option, Some, None}
use Rattle.std.specs.List.{flat_map, list_any, list_all}
use Rattle.std.proofs.lemmas.List.Folds.{list_any-append}
use Rattle.std.proofs.lemmas.List.Concat.{flat_map-append}
use Rattle.std.specs.Str.{bytes_eq}
use Rattle.std.proofs.lemmas.List.{append-nil}
use Rattle.std.proofs.lemmas.Bool.{and_parts}
use Rattle.token_forms.specs.Tokens.{Token}
use Rattle.token_forms.specs.Parts.{token_texts}
use Rattle.token_forms.specs.Forms.{AreMany, IsMaybe}
use Rattle.def_syntax.specs.Options.{open_behind, may_stand, all_stand, open_after, and_last}
use Rattle.def_syntax.specs.Words.{marks}
use Rattle.def_syntax.specs.Grammar.{net_option, net_parts}
use Rattle.def_syntax.specs.declared.net_parts.NetOption.{NetOption}
use Rattle.def_syntax.specs.declared.net_parts.NetParts.{NetParts}
use Rattle.token_forms.specs.Classes.{But, is_in, is_among}
use Rattle.def_syntax.proofs.FrameLaws.{each_front, each_behind}
use Rattle.def_layout.specs.declared.net.ConnectionLayout.{ConnectionLayout}
use Rattle.def_layout.specs.NetForms.{IsIn, AreIn}
use Rattle.def_layout.specs.Nets.{synthesized_words, connection_words, connection_in, wiring, begins_wiring, other_words, has_wiring}
use Rattle.def_layout.specs.NetOptions.{AreOptions, is_wiring, unless_wiring, NetOptionsLaw}
use Rattle.def_layout.proofs.NetThere.{texts_both, is_good, many_there}
use Rattle.def_layout.proofs.NetWritten.{others_end}

stand_of : (a b c : Bool) → (not a && (not b || not c)) ≡ true → (a ≡ false) × ((b && c) ≡ false)
stand_of true b c e = absurd cc
stand_of false true true e = absurd cc
stand_of false true false e = (refl, refl)
stand_of false false c e = (refl, refl)

-- tokens within an option, and what stands behind it
inner_words : (d : ℕ) (s : Bool) (ts : List Token) (ws : List (List ℕ)) → all_stand d ts ≡ true → other_words d s (token_texts ts ++ ws) ≡ (if s then token_texts ts else []) ++ other_words (open_after d ts) s ws
unfolding other_words all_stand open_after
inner_words d true [] ws h = refl
inner_words d false [] ws h = refl
inner_words d s (t ∷ ts) ws h =
    let a = and_parts (may_stand d t.text) (all_stand (open_behind d t.text) ts) h in
    let b = stand_of (bytes_eq t.text (codes ";")) (bytes_eq t.text (codes "+")) (eqb d 0) a.0 in
    rw (b.1, b.0) (put s (inner_words (open_behind d t.text) s ts ws a.1))
  where
    put : (s : Bool) → other_words (open_behind d t.text) s (token_texts ts ++ ws) ≡ (if s then token_texts ts else []) ++ other_words (open_after (open_behind d t.text) ts) s ws
        → (if s && true then t.text ∷ [] else []) ++ other_words (open_behind d t.text) s (token_texts ts ++ ws) ≡ (if s then t.text ∷ token_texts ts else []) ++ other_words (open_after (open_behind d t.text) ts) s ws
    put true e = ap (λ (x : List (List ℕ)). t.text ∷ x) e
    put false e = e

inner_wiring : (d : ℕ) (ts : List Token) (ws : List (List ℕ)) → all_stand d ts ≡ true → has_wiring d (token_texts ts ++ ws) ≡ has_wiring (open_after d ts) ws
unfolding has_wiring all_stand open_after
inner_wiring d [] ws h = refl
inner_wiring d (t ∷ ts) ws h =
    let a = and_parts (may_stand d t.text) (all_stand (open_behind d t.text) ts) h in
    let b = stand_of (bytes_eq t.text (codes ";")) (bytes_eq t.text (codes "+")) (eqb d 0) a.0 in
    rw (b.1) (inner_wiring (open_behind d t.text) ts ws a.1)

-- an option's tokens: a +, and those behind it
record Opened (closed : Bool) (o : List Token) : Type 0 where
  plus : Token
  rest : List Token
  is : o ≡ plus ∷ rest
  text : plus.text ≡ codes "+"
  stand : all_stand 0 rest ≡ true
  shut : closed ≡ true → open_after 0 rest ≡ 0

opened : (closed : Bool) (x : NetOption) (o : List Token) → (net_option closed).spells x o → Opened closed o
unfolding net_option
opened closed x o h =
    let a = h.holds.holds.holds in
    record { plus = a.first.token; rest = a.back; is = a.is ∙ ap (λ (ts : List Token). ts ++ a.back) a.first.is; text = a.first.text; stand = a.second.stand; shut = a.second.shut }

any_option : (x : NetOption) (o : List Token) → (net_option true).spells x o → (net_option false).spells x o
unfolding net_option
any_option x o h =
    let a = h.holds.holds.holds in
    record {
      parts = h.parts;
      is = h.is;
      holds = record {
        holds = record {
          parts = h.holds.holds.parts;
          is = h.holds.holds.is;
          holds = record { front = a.front; back = a.back; is = a.is; first = a.first; second = record { stand = a.second.stand; shut = λ e. absurd cc; free = a.second.free; first = a.second.first } };
        };
        place = h.holds.place;
      };
    }

wiring_behind : (ts : List Token) (ws : List (List ℕ)) → begins_wiring ws ≡ false → begins_wiring (token_texts ts ++ ws) ≡ begins_wiring (token_texts ts)
wiring_behind [] ws e = e
wiring_behind (t ∷ ts) ws e = refl

-- an option, and what stands behind it, where its words stay or not
option_words : (closed s : Bool) (o : List Token) (ws : List (List ℕ)) (more : List (List ℕ)) → (p : Opened closed o) → begins_wiring ws ≡ false → ((d : ℕ) (s : Bool) → d ≡ open_after 0 p.rest → other_words d s ws ≡ more)
    → other_words 0 s (token_texts o ++ ws) ≡ unless_wiring o ++ more
unfolding other_words
option_words closed s o ws more p free next =
    subst (λ (ts : List Token). other_words 0 s (token_texts ts ++ ws) ≡ unless_wiring ts ++ more) (sym p.is)
    (rw (p.text, wiring_behind p.rest ws free) (put (begins_wiring (token_texts p.rest)) (λ b. inner_words 0 b p.rest ws p.stand) (λ b. next (open_after 0 p.rest) b refl)))
  where
    put : (b : Bool) → ((b : Bool) → other_words 0 b (token_texts p.rest ++ ws) ≡ (if b then token_texts p.rest else []) ++ other_words (open_after 0 p.rest) b ws) → ((b : Bool) → other_words (open_after 0 p.rest) b ws ≡ more)
        → (if not b && true then codes "+" ∷ [] else []) ++ other_words 0 (not b) (token_texts p.rest ++ ws) ≡ (if b then [] else codes "+" ∷ token_texts p.rest) ++ more
    put true f g = f false ∙ g false
    put false f g = ap (λ (x : List (List ℕ)). codes "+" ∷ x) (f true ∙ ap (λ (x : List (List ℕ)). token_texts p.rest ++ x) (g true))

or_same : (a b c : Bool) → b ≡ c → (a || b) ≡ (a || c)
or_same a b c e = ap (λ (x : Bool). a || x) e

option_wiring : (closed : Bool) (o : List Token) (ws : List (List ℕ)) (more : Bool) → (p : Opened closed o) → begins_wiring ws ≡ false → has_wiring (open_after 0 p.rest) ws ≡ more → has_wiring 0 (token_texts o ++ ws) ≡ (is_wiring o || more)
unfolding has_wiring
option_wiring closed o ws more p free next =
    subst (λ (ts : List Token). has_wiring 0 (token_texts ts ++ ws) ≡ (is_wiring ts || more)) (sym p.is)
    (rw (p.text, wiring_behind p.rest ws free) (or_same (begins_wiring (token_texts p.rest)) _ more (inner_wiring 0 p.rest ws p.stand ∙ next)))

-- options, and what stands behind them
record ManyWords (xs : List NetOption) (ts : List Token) (ws more : List (List ℕ)) (wires : Bool) : Type 0 where
  tokens : List (List Token)
  options : AreOptions xs tokens
  words : (s : Bool) → other_words 0 s (token_texts ts ++ ws) ≡ flat_map unless_wiring tokens ++ more
  wiring : has_wiring 0 (token_texts ts ++ ws) ≡ (list_any is_wiring tokens || wires)
  free : begins_wiring (token_texts ts ++ ws) ≡ false

or_assoc : (a b c : Bool) → (a || (b || c)) ≡ ((a || b) || c)
or_assoc true b c = refl
or_assoc false b c = refl

many_words : (xs : List NetOption) (ts : List Token) (ws more : List (List ℕ)) (wires : Bool) → AreMany (net_option true).spells xs ts → begins_wiring ws ≡ false → ((s : Bool) → other_words 0 s ws ≡ more) → has_wiring 0 ws ≡ wires → ManyWords xs ts ws more wires
many_words [] ts ws more wires h free next wired =
    let e : token_texts ts ++ ws ≡ ws = ap (λ (us : List Token). token_texts us ++ ws) h in
    record { tokens = []; options = tt; words = λ s. ap (other_words 0 s) e ∙ next s; wiring = ap (has_wiring 0) e ∙ wired; free = ap begins_wiring e ∙ free }
many_words (x ∷ xs) ts ws more wires h free next wired =
    let p = opened true x h.front h.first in
    let r = many_words xs h.back ws more wires h.second free next wired in
    let cut : token_texts ts ++ ws ≡ token_texts h.front ++ (token_texts h.back ++ ws) = ap (λ (us : List Token). token_texts us ++ ws) h.is ∙ ap (λ (vs : List (List ℕ)). vs ++ ws) (texts_both h.front h.back) ∙ append_assoc (token_texts h.front) (token_texts h.back) ws in
    let zero = p.shut refl in
    record {
      tokens = h.front ∷ r.tokens;
      options = (any_option x h.front h.first, r.options);
      words = λ s.
          ap (other_words 0 s) cut ∙ option_words true s h.front (token_texts h.back ++ ws) (flat_map unless_wiring r.tokens ++ more) p r.free (λ d b e. ap (λ (n : ℕ). other_words n b (token_texts h.back ++ ws)) (e ∙ zero) ∙ r.words b)
          ∙ sym (append_assoc (unless_wiring h.front) (flat_map unless_wiring r.tokens) more);
      wiring = ap (has_wiring 0) cut ∙ option_wiring true h.front (token_texts h.back ++ ws) (list_any is_wiring r.tokens || wires) p r.free (ap (λ (n : ℕ). has_wiring n (token_texts h.back ++ ws)) zero ∙ r.wiring)
          ∙ or_assoc (is_wiring h.front) (list_any is_wiring r.tokens) wires;
      free = ap begins_wiring cut ∙ ap (λ (us : List Token). begins_wiring (token_texts us ++ (token_texts h.back ++ ws))) p.is ∙ plus_free p.plus.text p.text;
    }
  where
    plus_free : (w : List ℕ) → w ≡ codes "+" → is_among wiring w ≡ false
    plus_free w e = rw e refl

-- the last option may stay open
semi_words : (d : ℕ) (s : Bool) → other_words d s (codes ";" ∷ []) ≡ []
unfolding other_words
semi_words d s = others_end d s []

semi_wiring : (d : ℕ) → has_wiring d (codes ";" ∷ []) ≡ false
unfolding has_wiring
semi_wiring d = refl

last_words : (o : Option NetOption) (ts : List Token) → IsMaybe (net_option false).spells o ts → ManyWords (and_last [] o) ts (codes ";" ∷ []) [] false
last_words None ts h =
    let e : token_texts ts ++ codes ";" ∷ [] ≡ codes ";" ∷ [] = ap (λ (us : List Token). token_texts us ++ codes ";" ∷ []) h in
    record { tokens = []; options = tt; words = λ s. ap (other_words 0 s) e ∙ semi_words 0 s; wiring = ap (has_wiring 0) e ∙ semi_wiring 0; free = ap begins_wiring e }
last_words (Some x) ts h =
    let p = opened false x ts h in
    record {
      tokens = ts ∷ [];
      options = (h, tt);
      words = λ s. option_words false s ts (codes ";" ∷ []) [] p refl (λ d b e. semi_words d b) ∙ sym (append_assoc (unless_wiring ts) [] []);
      wiring = option_wiring false ts (codes ";" ∷ []) false p refl (semi_wiring (open_after 0 p.rest)) ∙ or_assoc (is_wiring ts) false false;
      free = ap (λ (us : List Token). begins_wiring (token_texts us ++ codes ";" ∷ [])) p.is ∙ plus_free p.plus.text p.text;
    }
  where
    plus_free : (w : List ℕ) → w ≡ codes "+" → is_among wiring w ≡ false
    plus_free w e = rw e refl

record NameFacts (w : List ℕ) : Type 0 where
  opens : bytes_eq w (codes "(") ≡ false
  closes : bytes_eq w (codes ")") ≡ false
  plus : bytes_eq w (codes "+") ≡ false

name_facts : (w : List ℕ) → is_in (But marks) w ≡ true → NameFacts w
name_facts w e = of (bytes_eq w (codes "(")) (bytes_eq w (codes ")")) (bytes_eq w (codes "+")) (bytes_eq w (codes ";")) refl refl refl e
  where
    of : (a b c d : Bool) → bytes_eq w (codes "(") ≡ a → bytes_eq w (codes ")") ≡ b → bytes_eq w (codes "+") ≡ c → not (a || (b || (c || (d || false)))) ≡ true → NameFacts w
    of true b c d p q r e = absurd cc
    of false true c d p q r e = absurd cc
    of false false true d p q r e = absurd cc
    of false false false d p q r e = record { opens = p; closes = q; plus = r }

one_skip : (comp pin : List ℕ) (b : Bool) (ws : List (List ℕ)) → NameFacts comp → NameFacts pin
    → (other_words 0 false ((codes "(" ∷ comp ∷ pin ∷ (synthesized_words b ++ codes ")" ∷ [])) ++ ws) ≡ other_words 0 false ws) × (has_wiring 0 ((codes "(" ∷ comp ∷ pin ∷ (synthesized_words b ++ codes ")" ∷ [])) ++ ws) ≡ has_wiring 0 ws)
unfolding other_words has_wiring
one_skip comp pin true ws f g = (rw (f.opens, f.closes, f.plus, g.opens, g.closes, g.plus) refl, rw (f.opens, f.closes, f.plus, g.opens, g.closes, g.plus) refl)
one_skip comp pin false ws f g = (rw (f.opens, f.closes, f.plus, g.opens, g.closes, g.plus) refl, rw (f.opens, f.closes, f.plus, g.opens, g.closes, g.plus) refl)

connections_skip : (cs : List ConnectionLayout) (ws : List (List ℕ)) → list_all is_good cs ≡ true
    → (other_words 0 false (flat_map connection_words cs ++ ws) ≡ other_words 0 false ws) × (has_wiring 0 (flat_map connection_words cs ++ ws) ≡ has_wiring 0 ws)
connections_skip [] ws all = (refl, refl)
connections_skip (c ∷ cs) ws all =
    let h = and_parts (is_good c) (list_all is_good cs) all in
    let g = and_parts (is_in (But marks) c.component) (is_in (But marks) c.pin) h.0 in
    let one = one_skip c.component c.pin c.synthesized (flat_map connection_words cs ++ ws) (name_facts c.component g.0) (name_facts c.pin g.1) in
    let r = connections_skip cs ws h.1 in
    let cut = append_assoc (connection_words c) (flat_map connection_words cs) ws in
    (ap (other_words 0 false) cut ∙ one.0 ∙ r.0, ap (has_wiring 0) cut ∙ one.1 ∙ r.1)

name_skip : (w : List ℕ) (ws : List (List ℕ)) → NameFacts w → (other_words 0 false (codes "-" ∷ w ∷ ws) ≡ other_words 0 false ws) × (has_wiring 0 (codes "-" ∷ w ∷ ws) ≡ has_wiring 0 ws)
unfolding other_words has_wiring
name_skip w ws f = (rw (f.opens, f.closes, f.plus) refl, rw (f.opens, f.closes, f.plus) refl)

options_append : (xs ys : List NetOption) (ts us : List (List Token)) → AreOptions xs ts → AreOptions ys us → AreOptions (xs ++ ys) (ts ++ us)
options_append [] ys [] us h k = k
options_append [] ys (t ∷ ts) us h k = absurd h
options_append (x ∷ xs) ys [] us h k = absurd h
options_append (x ∷ xs) ys (t ∷ ts) us h k = (h.0, options_append xs ys ts us h.1 k)

last_append : (xs : List NetOption) (o : Option NetOption) → xs ++ and_last [] o ≡ and_last xs o
last_append xs None = append-nil xs
last_append xs (Some x) = refl

pub net_options_law : NetOptionsLaw
unfolding net_parts
net_options_law text x ts inside h =
    let a = h.holds in
    let b = a.holds.second in
    let c = b.holds.first in
    let d = c.second in
    let g = d.second in
    let all = subst (AreIn text) a.holds.is inside in
    let after = subst (AreIn text) b.holds.is (each_behind (IsIn text) a.holds.front a.holds.back all) in
    let names = subst (AreIn text) c.is (each_front (IsIn text) b.holds.front b.holds.back after) in
    let rest = subst (AreIn text) d.is (each_behind (IsIn text) c.front c.back names) in
    let there = many_there text b.parts.0.1.0 d.front (each_front (IsIn text) d.front d.back rest) d.first in
    let cs = map (connection_in text) b.parts.0.1.0 in
    let l = last_words g.parts.1 g.holds.back g.holds.second in
    let m = many_words g.parts.0 g.holds.front (token_texts g.holds.back ++ codes ";" ∷ []) (flat_map unless_wiring l.tokens ++ []) (list_any is_wiring l.tokens || false) g.holds.first l.free l.words l.wiring in
    let ow = token_texts d.back ++ codes ";" ∷ [] in
    let words : token_texts ts ≡ codes "-" ∷ c.first.token.text ∷ (flat_map connection_words cs ++ ow) =
    ap token_texts a.holds.is ∙ texts_both a.holds.front a.holds.back ∙ ap (λ (us : List Token). token_texts us ++ token_texts a.holds.back) a.holds.first.is ∙ ap (λ (w : List ℕ). w ∷ token_texts a.holds.back) a.holds.first.text
    ∙ ap (λ (us : List Token). codes "-" ∷ token_texts us) b.holds.is ∙ ap (λ (ws : List (List ℕ)). codes "-" ∷ ws) (texts_both b.holds.front b.holds.back)
    ∙ ap (λ (us : List Token). codes "-" ∷ (token_texts b.holds.front ++ token_texts us)) b.holds.second.is ∙ ap (λ (w : List ℕ). codes "-" ∷ (token_texts b.holds.front ++ w ∷ [])) b.holds.second.text
    ∙ ap (λ (us : List Token). codes "-" ∷ (token_texts us ++ codes ";" ∷ [])) c.is ∙ ap (λ (ws : List (List ℕ)). codes "-" ∷ (ws ++ codes ";" ∷ [])) (texts_both c.front c.back)
    ∙ ap (λ (us : List Token). codes "-" ∷ ((token_texts us ++ token_texts c.back) ++ codes ";" ∷ [])) c.first.is
    ∙ ap (λ (us : List Token). codes "-" ∷ c.first.token.text ∷ (token_texts us ++ codes ";" ∷ [])) d.is ∙ ap (λ (ws : List (List ℕ)). codes "-" ∷ c.first.token.text ∷ (ws ++ codes ";" ∷ [])) (texts_both d.front d.back)
    ∙ ap (λ (ws : List (List ℕ)). codes "-" ∷ c.first.token.text ∷ ((ws ++ token_texts d.back) ++ codes ";" ∷ [])) there.texts ∙ ap (λ (ws : List (List ℕ)). codes "-" ∷ c.first.token.text ∷ ws) (append_assoc (flat_map connection_words cs) (token_texts d.back) (codes ";" ∷ []))
    in
    let name_good : is_in (But marks) c.first.token.text ≡ true = less (bytes_eq c.first.token.text (codes "MUSTJOIN")) (is_among marks c.first.token.text) (subst (λ (w : List ℕ). is_in (But (codes "MUSTJOIN" ∷ marks)) w ≡ true) (sym c.first.text) c.first.kind_is) in
    let skip = name_skip c.first.token.text (flat_map connection_words cs ++ ow) (name_facts c.first.token.text name_good) in
    let skips = connections_skip cs ow there.good in
    let cut : ow ≡ token_texts g.holds.front ++ (token_texts g.holds.back ++ codes ";" ∷ []) =
    ap (λ (us : List Token). token_texts us ++ codes ";" ∷ []) g.holds.is ∙ ap (λ (ws : List (List ℕ)). ws ++ codes ";" ∷ []) (texts_both g.holds.front g.holds.back) ∙ append_assoc (token_texts g.holds.front) (token_texts g.holds.back) (codes ";" ∷ [])
    in
    let list : and_last g.parts.0 g.parts.1 ≡ x.options = g.is ∙ ap (λ p. p.1.1) (b.is ∙ a.is) ∙ ap (λ (n : NetParts). n.options) h.is in
    record {
      tokens = m.tokens ++ l.tokens;
      options = subst (λ (xs : List NetOption). AreOptions xs (m.tokens ++ l.tokens)) (last_append g.parts.0 g.parts.1 ∙ list) (options_append g.parts.0 (and_last [] g.parts.1) m.tokens l.tokens m.options l.options);
      stay = ap (other_words 0 false) words ∙ skip.0 ∙ skips.0 ∙ ap (other_words 0 false) cut ∙ m.words false ∙ ap (λ (ws : List (List ℕ)). flat_map unless_wiring m.tokens ++ ws) (append-nil (flat_map unless_wiring l.tokens)) ∙ sym (flat_map-append unless_wiring m.tokens l.tokens);
      wiring = ap (has_wiring 0) words ∙ skip.1 ∙ skips.1 ∙ ap (has_wiring 0) cut ∙ m.wiring ∙ ap (λ (t : Bool). list_any is_wiring m.tokens || t) (or_false (list_any is_wiring l.tokens)) ∙ sym (list_any-append is_wiring m.tokens l.tokens);
    }
  where
    less : (a b : Bool) → not (a || b) ≡ true → not b ≡ true
    less true b e = absurd cc
    less false b e = e

    or_false : (a : Bool) → (a || false) ≡ a
    or_false true = refl
    or_false false = refl
