-- The words of a net that is written, from those of the net that was read.
use Rattle.std.proofs.Common.{◌≡◌, ℕ, Bool, true, false, not, ◌&&◌, ◌||◌, if◌then◌else◌, List, [], ◌∷◌, ◌++◌, drop, refl, ap, ◌∙◌, subst, append_assoc, codes}
use Rattle.std.specs.List.{flat_map, list_all}
use Rattle.std.specs.Str.{bytes_eq}
use Rattle.std.proofs.lemmas.List.Folds.{list_all-append}
use Rattle.std.proofs.lemmas.Bool.{and_from, or_left, and_parts, not-true}
use Rattle.base_types.proofs.TruthValues.{bytes_are}
use Rattle.token_forms.specs.Classes.{But, is_in}
use Rattle.def_syntax.specs.Words.{marks}
use Rattle.def_syntax.specs.Options.{open_behind}
use Rattle.def_layout.specs.declared.net.ConnectionLayout.{ConnectionLayout}
use Rattle.def_layout.specs.Words.{is_whole, is_cut, are_standing}
use Rattle.def_layout.specs.Nets.{synthesized_words, connection_words, first_stays, kept, begins_wiring, begins_option, stays_at, other_words}
use Rattle.def_layout.proofs.Closing.{are_closing, are_free}
use Rattle.def_layout.proofs.NetThere.{is_good}
use Rattle.def_layout.proofs.NetBack.{is_passing, are_options}

abbrev pub whole_connection : ConnectionLayout → Bool
whole_connection c = is_whole c.component && is_whole c.pin

abbrev is_some_word : List ℕ → Bool
is_some_word w = not (bytes_eq w [])

pub closing_of : (ws : List (List ℕ)) → are_free ws ≡ true → are_standing (ws ++ codes ";" ∷ []) ≡ true → are_closing ws ≡ true
closing_of [] free stand = refl
closing_of (w ∷ []) free stand = last (is_whole w) (is_cut w) stand
  where
    last : (a b : Bool) → ((a || (b && true)) && true) ≡ true → (a || b) ≡ true
    last true b e = refl
    last false true e = refl
    last false false e = absurd cc
closing_of (w ∷ v ∷ ws) free stand =
    let f = and_parts (not (bytes_eq w (codes ";"))) (are_free (v ∷ ws)) free in
    let g = and_parts (not (bytes_eq v (codes ";"))) (are_free ws) f.1 in
    let h = and_parts (is_whole w || (is_cut w && bytes_eq v (codes ";"))) (are_standing (v ∷ ws ++ codes ";" ∷ [])) stand in
    and_from (is_whole w) (are_closing (v ∷ ws)) (first (is_whole w) (is_cut w) (bytes_eq v (codes ";")) (not-true _ g.0) h.0) (closing_of (v ∷ ws) f.1 h.1)
  where
    first : (a b c : Bool) → c ≡ false → (a || (b && c)) ≡ true → a ≡ true
    first true b c e f = refl
    first false true true e f = absurd cc
    first false true false e f = absurd cc
    first false false c e f = absurd cc

pub closing_behind : (w : List ℕ) (ws : List (List ℕ)) → are_closing (w ∷ ws) ≡ true → are_closing ws ≡ true
closing_behind w [] h = refl
closing_behind w (v ∷ ws) h = (and_parts (is_whole w) (are_closing (v ∷ ws)) h).1

pub put_whole : (w : List ℕ) (ws : List (List ℕ)) → is_whole w ≡ true → are_closing ws ≡ true → are_closing (w ∷ ws) ≡ true
put_whole w [] whole h = or_left (is_whole w) (is_cut w) whole
put_whole w (v ∷ ws) whole h = and_from (is_whole w) (are_closing (v ∷ ws)) whole h

pub closing_both : (xs ys : List (List ℕ)) → list_all is_whole xs ≡ true → are_closing ys ≡ true → are_closing (xs ++ ys) ≡ true
closing_both [] ys all h = h
closing_both (x ∷ xs) ys all h = let a = and_parts (is_whole x) (list_all is_whole xs) all in put_whole x (xs ++ ys) a.0 (closing_both xs ys a.1 h)

stands_some : (w : List ℕ) → (is_whole w || is_cut w) ≡ true → is_some_word w ≡ true
stands_some [] e = absurd cc
stands_some (b ∷ bs) e = refl

pub closing_some : (ws : List (List ℕ)) → are_closing ws ≡ true → list_all is_some_word ws ≡ true
closing_some [] h = refl
closing_some (w ∷ []) h = and_from (is_some_word w) true (stands_some w h) refl
closing_some (w ∷ v ∷ ws) h =
    let a = and_parts (is_whole w) (are_closing (v ∷ ws)) h in
    and_from (is_some_word w) (list_all is_some_word (v ∷ ws)) (stands_some w (or_left (is_whole w) (is_cut w) a.0)) (closing_some (v ∷ ws) a.1)

one_connection : (comp pin : List ℕ) (b : Bool) (rest : List (List ℕ)) → are_closing (codes "(" ∷ comp ∷ pin ∷ ((synthesized_words b ++ codes ")" ∷ []) ++ rest)) ≡ true → (is_whole comp ≡ true) × (is_whole pin ≡ true) × (are_closing rest ≡ true)
one_connection comp pin true rest h =
    let a = and_parts (is_whole comp) _ h in
    let b = and_parts (is_whole pin) _ a.1 in
    (a.0, b.0, closing_behind (codes ")") rest b.1)
one_connection comp pin false rest h =
    let a = and_parts (is_whole comp) _ h in
    let b = and_parts (is_whole pin) _ a.1 in
    (a.0, b.0, closing_behind (codes ")") rest b.1)

pub connections_whole : (cs : List ConnectionLayout) (rest : List (List ℕ)) → are_closing (flat_map connection_words cs ++ rest) ≡ true → (list_all whole_connection cs ≡ true) × (are_closing rest ≡ true)
connections_whole [] rest h = (refl, h)
connections_whole (c ∷ cs) rest h =
    let cut = append_assoc (connection_words c) (flat_map connection_words cs) rest in
    let a = one_connection c.component c.pin c.synthesized (flat_map connection_words cs ++ rest) (subst (λ (ws : List (List ℕ)). are_closing ws ≡ true) cut h) in
    let r = connections_whole cs rest a.2 in
    (rw (a.0, a.1, r.0) refl, r.1)

pub whole_words : (cs : List ConnectionLayout) → list_all whole_connection cs ≡ true → list_all is_whole (flat_map connection_words cs) ≡ true
whole_words [] all = refl
whole_words (c ∷ cs) all =
    let h = and_parts (whole_connection c) (list_all whole_connection cs) all in
    let w = and_parts (is_whole c.component) (is_whole c.pin) h.0 in
    list_all-append is_whole (connection_words c) (flat_map connection_words cs) ∙ and_from _ _ (of c.component c.pin c.synthesized w.0 w.1) (whole_words cs h.1)
  where
    of : (comp pin : List ℕ) (b : Bool) → is_whole comp ≡ true → is_whole pin ≡ true → list_all is_whole (codes "(" ∷ comp ∷ pin ∷ (synthesized_words b ++ codes ")" ∷ [])) ≡ true
    of comp pin true e f = rw (e, f) refl
    of comp pin false e f = rw (e, f) refl

no_mark : (a b c d : Bool) → not (a || (b || (c || (d || false)))) ≡ true → d ≡ false
no_mark true b c d e = absurd cc
no_mark false true c d e = absurd cc
no_mark false false true d e = absurd cc
no_mark false false false true e = absurd cc
no_mark false false false false e = refl

free_name : (w : List ℕ) → is_in (But marks) w ≡ true → bytes_eq w (codes ";") ≡ false
free_name w e = no_mark (bytes_eq w (codes "(")) (bytes_eq w (codes ")")) (bytes_eq w (codes "+")) (bytes_eq w (codes ";")) e

pub free_net_name : (w : List ℕ) → is_in (But (codes "MUSTJOIN" ∷ marks)) w ≡ true → bytes_eq w (codes ";") ≡ false
free_net_name w e = free_name w (less (bytes_eq w (codes "MUSTJOIN")) _ e)
  where
    less : (a b : Bool) → not (a || b) ≡ true → not b ≡ true
    less true b e = absurd cc
    less false b e = e

pub free_words : (cs : List ConnectionLayout) → list_all is_good cs ≡ true → are_free (flat_map connection_words cs) ≡ true
free_words [] all = refl
free_words (c ∷ cs) all =
    let h = and_parts (is_good c) (list_all is_good cs) all in
    let w = and_parts (is_in (But marks) c.component) (is_in (But marks) c.pin) h.0 in
    list_all-append (λ w. not (bytes_eq w (codes ";"))) (connection_words c) (flat_map connection_words cs) ∙ and_from _ _ (of c.component c.pin c.synthesized (free_name c.component w.0) (free_name c.pin w.1)) (free_words cs h.1)
  where
    of : (comp pin : List ℕ) (b : Bool) → bytes_eq comp (codes ";") ≡ false → bytes_eq pin (codes ";") ≡ false → are_free (codes "(" ∷ comp ∷ pin ∷ (synthesized_words b ++ codes ")" ∷ [])) ≡ true
    of comp pin true e f = rw (e, f) refl
    of comp pin false e f = rw (e, f) refl

pub all_kept : {X : Type 0} (p : X → Bool) (stay : List Bool) (xs : List X) → list_all p xs ≡ true → list_all p (kept stay xs) ≡ true
unfolding kept
all_kept p stay [] all = refl
all_kept p stay (x ∷ xs) all =
    let h = and_parts (p x) (list_all p xs) all in
    of (first_stays stay) (all_kept p (drop 1 stay) xs h.1) h.0
  where
    of : (b : Bool) → list_all p (kept (drop 1 stay) xs) ≡ true → p x ≡ true → list_all p ((if b then x ∷ [] else []) ++ kept (drop 1 stay) xs) ≡ true
    of true r e = and_from (p x) _ e r
    of false r e = r

pub all_both : {X : Type 0} (p : X → Bool) (xs ys : List X) → list_all p xs ≡ true → list_all p ys ≡ true → list_all p (xs ++ ys) ≡ true
all_both p xs ys e f = list_all-append p xs ys ∙ and_from _ _ e f

-- the semicolon gives no word of an option
pub others_end : (d : ℕ) (s : Bool) (ws : List (List ℕ)) → other_words d s (ws ++ codes ";" ∷ []) ≡ other_words d s ws
unfolding other_words
others_end d s [] = none (stays_at d s (codes ";") [])
  where
    none : (a : Bool) → (if a && false then codes ";" ∷ [] else []) ++ [] ≡ []
    none true = refl
    none false = refl
others_end d s (w ∷ ws) = rw (same ws) (ap (λ (x : List (List ℕ)). (if stays_at d s w ws && not (bytes_eq w (codes ";")) then w ∷ [] else []) ++ x) (others_end (open_behind d w) (stays_at d s w ws) ws))
  where
    same : (ws : List (List ℕ)) → begins_wiring (ws ++ codes ";" ∷ []) ≡ begins_wiring ws
    same [] = refl
    same (v ∷ vs) = refl

pub others_closing : (d : ℕ) (s : Bool) (ws : List (List ℕ)) → are_closing ws ≡ true → are_closing (other_words d s ws) ≡ true
unfolding other_words
others_closing d s [] h = refl
others_closing d s (w ∷ []) h = of (stays_at d s w [] && not (bytes_eq w (codes ";")))
  where
    of : (b : Bool) → are_closing ((if b then w ∷ [] else []) ++ []) ≡ true
    of true = h
    of false = refl
others_closing d s (w ∷ v ∷ ws) h =
    let a = and_parts (is_whole w) (are_closing (v ∷ ws)) h in
    of (stays_at d s w (v ∷ ws) && not (bytes_eq w (codes ";"))) (other_words (open_behind d w) (stays_at d s w (v ∷ ws)) (v ∷ ws)) a.0 (others_closing (open_behind d w) (stays_at d s w (v ∷ ws)) (v ∷ ws) a.1)
  where
    of : (b : Bool) (xs : List (List ℕ)) → is_whole w ≡ true → are_closing xs ≡ true → are_closing ((if b then w ∷ [] else []) ++ xs) ≡ true
    of true xs e r = put_whole w xs e r
    of false xs e r = r

others_pass : (d : ℕ) (s : Bool) (ws : List (List ℕ)) → list_all is_some_word ws ≡ true → list_all is_passing (other_words d s ws) ≡ true
unfolding other_words
others_pass d s [] h = refl
others_pass d s (w ∷ ws) h =
    let a = and_parts (is_some_word w) (list_all is_some_word ws) h in
    of (stays_at d s w ws) (bytes_eq w (codes ";")) (other_words (open_behind d w) (stays_at d s w ws) ws) refl a.0 (others_pass (open_behind d w) (stays_at d s w ws) ws a.1)
  where
    of : (b c : Bool) (xs : List (List ℕ)) → bytes_eq w (codes ";") ≡ c → is_some_word w ≡ true → list_all is_passing xs ≡ true → list_all is_passing ((if b && not c then w ∷ [] else []) ++ xs) ≡ true
    of true true xs e f r = r
    of true false xs e f r = and_from (is_passing w) _ (and_from (not (bytes_eq w (codes ";"))) (is_some_word w) (rw e refl) f) r
    of false c xs e f r = r

pub others_options : (d : ℕ) (ws : List (List ℕ)) → list_all is_some_word ws ≡ true → are_options (other_words d false ws) ≡ true
unfolding other_words
others_options d [] h = refl
others_options d (w ∷ ws) h =
    let a = and_parts (is_some_word w) (list_all is_some_word ws) h in
    of (begins_option d w) (begins_wiring ws) refl (λ s. others_pass (open_behind d w) s ws a.1) (others_options (open_behind d w) ws a.1)
  where
    of : (b c : Bool) → begins_option d w ≡ b → ((s : Bool) → list_all is_passing (other_words (open_behind d w) s ws) ≡ true) → are_options (other_words (open_behind d w) false ws) ≡ true
        → are_options ((if (if b then not c else false) && not (bytes_eq w (codes ";")) then w ∷ [] else []) ++ other_words (open_behind d w) (if b then not c else false) ws) ≡ true
    of true true e f r = r
    of true false e f r =
        let plus = (and_parts (bytes_eq w (codes "+")) _ e).0 in
        let is = bytes_are w (codes "+") plus in
        let semi : bytes_eq w (codes ";") ≡ false = rw is refl in
        rw (semi) (and_from (bytes_eq w (codes "+")) _ plus (f true))
    of false c e f r = r

pub passing_free : (ws : List (List ℕ)) → list_all is_passing ws ≡ true → are_free ws ≡ true
passing_free [] all = refl
passing_free (w ∷ ws) all =
    let h = and_parts (is_passing w) (list_all is_passing ws) all in
    and_from _ _ (and_parts (not (bytes_eq w (codes ";"))) (not (bytes_eq w [])) h.0).0 (passing_free ws h.1)
