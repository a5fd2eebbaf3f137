-- The words of a net's statement once sinks and wiring are erased.
use Rattle.std.proofs.Common.{◌≡◌, ℕ, Bool, true, false, not, ◌&&◌, ◌||◌, ◌==◌, if◌then◌else◌, List, [], ◌∷◌, ◌++◌, refl, sym, ap, ◌∙◌, append_assoc, codes, arith}
use Rattle.std.specs.List.{flat_map, list_all}
use Rattle.std.specs.Str.{bytes_eq}
use Rattle.std.proofs.lemmas.Bool.Decides.{nat_tests}
use Rattle.std.proofs.lemmas.Bool.{and_parts, not-true}
use Rattle.base_types.proofs.TruthValues.{bytes_are}
use Rattle.token_forms.specs.Classes.{But, is_in}
use Rattle.def_syntax.specs.Words.{marks}
use Rattle.def_syntax.specs.Options.{open_behind}
use Rattle.def_layout.specs.declared.net.ConnectionLayout.{ConnectionLayout}
use Rattle.def_layout.specs.Nets.{synthesized_words, connection_words, begins_wiring, begins_option, other_words}
use Rattle.def_layout.proofs.Closing.{are_free}
use Rattle.def_layout.proofs.NetThere.{is_good}
use Rattle.def_layout.proofs.NetWritten.{others_end}
use Rattle.def_edit.specs.ErasedDef.{Erasing, connects_sink, Before, Stays, Erased, erased_words}

-- a word that is no mark
pub record NoMark (w : List ℕ) : Type 0 where
  pub opens : bytes_eq w (codes "(") ≡ false
  pub closes : bytes_eq w (codes ")") ≡ false
  pub plus : bytes_eq w (codes "+") ≡ false

pub no_mark : (w : List ℕ) → is_in (But marks) w ≡ true → NoMark w
no_mark w e = let h = of (bytes_eq w (codes "(")) (bytes_eq w (codes ")")) (bytes_eq w (codes "+")) (bytes_eq w (codes ";")) e in record { opens = h.0; closes = h.1; plus = h.2 }
  where
    of : (a b c d : Bool) → not (a || (b || (c || (d || false)))) ≡ true → (a ≡ false) × (b ≡ false) × (c ≡ false)
    of true b c d e = absurd cc
    of false true c d e = absurd cc
    of false false true d e = absurd cc
    of false false false d e = (refl, refl, refl)

-- the words of a connection, unless it is a sink's
abbrev pub kept_words : Erasing → ConnectionLayout → List (List ℕ)
kept_words e c = if connects_sink e c.component c.pin then [] else connection_words c

erased_connection : (e : Erasing) (cut : Bool) (c : ConnectionLayout) (rest : List (List ℕ)) → erased_words e cut Before (connection_words c ++ rest) ≡ kept_words e c ++ erased_words e cut Before rest
unfolding erased_words
erased_connection e cut c rest = of (connects_sink e c.component c.pin) c.synthesized
  where
    of : (b s : Bool) → (if b then erased_words e cut Erased ((synthesized_words s ++ codes ")" ∷ []) ++ rest) else codes "(" ∷ c.component ∷ c.pin ∷ erased_words e cut Stays ((synthesized_words s ++ codes ")" ∷ []) ++ rest))
        ≡ (if b then [] else codes "(" ∷ c.component ∷ c.pin ∷ (synthesized_words s ++ codes ")" ∷ [])) ++ erased_words e cut Before rest
    of true true = refl
    of true false = refl
    of false true = refl
    of false false = refl

pub erased_connections : (e : Erasing) (cut : Bool) (cs : List ConnectionLayout) (rest : List (List ℕ)) → erased_words e cut Before (flat_map connection_words cs ++ rest) ≡ flat_map (kept_words e) cs ++ erased_words e cut Before rest
erased_connections e cut [] rest = refl
erased_connections e cut (c ∷ cs) rest =
    ap (erased_words e cut Before) (append_assoc (connection_words c) (flat_map connection_words cs) rest) ∙ erased_connection e cut c (flat_map connection_words cs ++ rest)
    ∙ ap (λ (ws : List (List ℕ)). kept_words e c ++ ws) (erased_connections e cut cs rest) ∙ sym (append_assoc (kept_words e c) (flat_map (kept_words e) cs) (erased_words e cut Before rest))

-- no words, or a + first
abbrev pub begins_plus : List (List ℕ) → Bool
begins_plus [] = true
begins_plus (w ∷ ws) = bytes_eq w (codes "+")

pub erased_options : (e : Erasing) (ws : List (List ℕ)) → begins_plus ws ≡ true → erased_words e true Before (ws ++ codes ";" ∷ []) ≡ other_words 0 false ws ++ codes ";" ∷ []
unfolding erased_words
erased_options e [] h = ap (λ (x : List (List ℕ)). x ++ codes ";" ∷ []) (others_end 0 false [])
erased_options e (w ∷ ws) h =
    let is = bytes_are w (codes "+") h in
    let opened : bytes_eq w (codes "(") ≡ false = rw is refl in
    rw opened (ap (λ (x : List (List ℕ)). x ++ codes ";" ∷ []) (others_end 0 false (w ∷ ws)))

-- no word before the options is one of theirs
skip_word : (d : ℕ) (w : List ℕ) (ws : List (List ℕ)) → is_in (But marks) w ≡ true → other_words d false (w ∷ ws) ≡ other_words d false ws
unfolding other_words
skip_word d w ws e = let h = no_mark w e in rw (h.opens, h.closes, h.plus) refl

skip_connection : (c : ConnectionLayout) (rest : List (List ℕ)) → is_good c ≡ true → other_words 0 false (connection_words c ++ rest) ≡ other_words 0 false rest
unfolding other_words
skip_connection c rest good =
    let h = and_parts (is_in (But marks) c.component) (is_in (But marks) c.pin) good in
    skip_word 1 c.component (c.pin ∷ ((synthesized_words c.synthesized ++ codes ")" ∷ []) ++ rest)) h.0 ∙ skip_word 1 c.pin ((synthesized_words c.synthesized ++ codes ")" ∷ []) ++ rest) h.1 ∙ of c.synthesized
  where
    of : (s : Bool) → other_words 1 false ((synthesized_words s ++ codes ")" ∷ []) ++ rest) ≡ other_words 0 false rest
    of true = refl
    of false = refl

skip_connections : (cs : List ConnectionLayout) (rest : List (List ℕ)) → list_all is_good cs ≡ true → other_words 0 false (flat_map connection_words cs ++ rest) ≡ other_words 0 false rest
skip_connections [] rest good = refl
skip_connections (c ∷ cs) rest good =
    let h = and_parts (is_good c) (list_all is_good cs) good in
    ap (other_words 0 false) (append_assoc (connection_words c) (flat_map connection_words cs) rest) ∙ skip_connection c (flat_map connection_words cs ++ rest) h.0 ∙ skip_connections cs rest h.1

pub others_of : (name : List ℕ) (cs : List ConnectionLayout) (rest : List (List ℕ)) → is_in (But marks) name ≡ true → list_all is_good cs ≡ true
    → other_words 0 false (codes "-" ∷ name ∷ (flat_map connection_words cs ++ rest)) ≡ other_words 0 false rest
unfolding other_words
others_of name cs rest named good = skip_word 0 name (flat_map connection_words cs ++ rest) named ∙ skip_connections cs rest good

-- the words of options that aren't wiring begin with a +
pub others_plus : (d : ℕ) (ws : List (List ℕ)) → begins_plus (other_words d false ws) ≡ true
unfolding other_words
others_plus d [] = refl
others_plus d (w ∷ ws) = of (begins_option d w) (begins_wiring ws) refl (others_plus (open_behind d w) ws)
  where
    of : (b c : Bool) → begins_option d w ≡ b → begins_plus (other_words (open_behind d w) false ws) ≡ true
        → begins_plus ((if (if b then not c else false) && not (bytes_eq w (codes ";")) then w ∷ [] else []) ++ other_words (open_behind d w) (if b then not c else false) ws) ≡ true
    of true true e r = r
    of true false e r =
        let plus = (and_parts (bytes_eq w (codes "+")) _ e).0 in
        let is = bytes_are w (codes "+") plus in
        let semi : bytes_eq w (codes ";") ≡ false = rw is refl in
        rw semi plus
    of false c e r = r

either_state : (s : Bool) (ws : List (List ℕ)) → begins_plus ws ≡ true → other_words 0 s ws ≡ other_words 0 false ws
unfolding other_words
either_state s [] h = refl
either_state s (w ∷ ws) h = rw h refl

plus_no_wiring : (ws : List (List ℕ)) → begins_plus ws ≡ true → begins_wiring ws ≡ false
plus_no_wiring [] h = refl
plus_no_wiring (w ∷ ws) h = let is = bytes_are w (codes "+") h in rw is refl

wiring_left : (ws : List (List ℕ)) → are_free ws ≡ true → begins_wiring ws ≡ false → begins_wiring (other_words 0 true ws) ≡ false
unfolding other_words
wiring_left [] free e = refl
wiring_left (w ∷ ws) free e = of (begins_option 0 w) (begins_wiring ws) (not-true _ (and_parts (not (bytes_eq w (codes ";"))) (are_free ws) free).0) (others_plus (open_behind 0 w) ws)
  where
    of : (b c : Bool) → bytes_eq w (codes ";") ≡ false → begins_plus (other_words (open_behind 0 w) false ws) ≡ true
        → begins_wiring ((if (if b then not c else true) && not (bytes_eq w (codes ";")) then w ∷ [] else []) ++ other_words (open_behind 0 w) (if b then not c else true) ws) ≡ false
    of true true f r = plus_no_wiring (other_words (open_behind 0 w) false ws) r
    of true false f r = rw f e
    of false c f r = rw f e

zero_if : (s : Bool) (k : ℕ) → k ≡ 0 → (if s then k else 0) ≡ 0
zero_if true k e = e
zero_if false k e = refl

zero_of : (a : Bool) (d : ℕ) → (a && (d == 0)) ≡ true → d ≡ 0
zero_of a d e = let h = (and_parts a (d == 0) e).1 in grind (arith, nat_tests)

plus_again : (s : Bool) (ws : List (List ℕ)) → are_free ws ≡ true → begins_wiring ws ≡ false → other_words 0 true (other_words 0 true ws) ≡ other_words 0 true ws
    → other_words 0 s (codes "+" ∷ other_words 0 true ws) ≡ codes "+" ∷ other_words 0 true ws
unfolding other_words
plus_again s ws free e again = let none = wiring_left ws free e in rw none (ap (λ (x : List (List ℕ)). codes "+" ∷ x) again)

-- taken once more they are the same
others_twice : (d : ℕ) (s : Bool) (ws : List (List ℕ)) → are_free ws ≡ true → other_words (if s then d else 0) s (other_words d s ws) ≡ other_words d s ws
unfolding other_words
others_twice d s [] free = refl
others_twice d s (w ∷ ws) free =
    let f = and_parts (not (bytes_eq w (codes ";"))) (are_free ws) free in
    of s (begins_option d w) (begins_wiring ws) refl refl (not-true _ f.0) (λ u. others_twice (open_behind d w) u ws f.1) f.1
  where
    of : (s b c : Bool) → begins_option d w ≡ b → begins_wiring ws ≡ c → bytes_eq w (codes ";") ≡ false
        → ((u : Bool) → other_words (if u then open_behind d w else 0) u (other_words (open_behind d w) u ws) ≡ other_words (open_behind d w) u ws) → are_free ws ≡ true
        → other_words (if s then d else 0) s ((if (if b then not c else s) && not (bytes_eq w (codes ";")) then w ∷ [] else []) ++ other_words (open_behind d w) (if b then not c else s) ws)
        ≡ (if (if b then not c else s) && not (bytes_eq w (codes ";")) then w ∷ [] else []) ++ other_words (open_behind d w) (if b then not c else s) ws
    of s true true e g semi again rest =
        let none = zero_of (bytes_eq w (codes "+")) d e in
        let out = other_words (open_behind d w) false ws in
        ap (λ (k : ℕ). other_words k s out) (zero_if s d none) ∙ either_state s out (others_plus (open_behind d w) ws) ∙ again false
    of s true false e g semi again rest =
        let none = zero_of (bytes_eq w (codes "+")) d e in
        let is = bytes_are w (codes "+") (and_parts (bytes_eq w (codes "+")) _ e).0 in
        let level : open_behind d w ≡ 0 = rw (is, none) refl in
        let once : other_words 0 true (other_words 0 true ws) ≡ other_words 0 true ws = ap (λ (k : ℕ). other_words k true (other_words k true ws)) (sym level) ∙ again true ∙ ap (λ (k : ℕ). other_words k true ws) level in
        let here : (if s then d else 0) ≡ 0 = zero_if s d none in
        rw (semi, here, level, is) (plus_again s ws rest g once)
    of true false c e g semi again rest = rw (semi, e, semi) (ap (λ (x : List (List ℕ)). w ∷ x) (again true))
    of false false c e g semi again rest = again false

pub others_again : (ws : List (List ℕ)) → are_free ws ≡ true → other_words 0 false (other_words 0 false ws) ≡ other_words 0 false ws
others_again ws free = others_twice 0 false ws free
