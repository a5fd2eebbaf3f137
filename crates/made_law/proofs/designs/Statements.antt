-- Statements by their words, whatever stands behind them.
use Rattle.std.proofs.Common.{◌≡◌, ℕ, ◌+◌, true, false, not, List, [], ◌∷◌, ◌++◌, length, take, drop, map, min, refl, ap, ◌∙◌, subst, append_assoc, codes, decimal, Option, Some, None, arith}
use Rattle.std.specs.List.{flat_map, AllByRecursion as Each}
use Rattle.std.specs.Str.{bytes_eq}
use Rattle.std.proofs.lemmas.Bool.{and_parts}
use Rattle.token_forms.specs.Tokens.{Token}
use Rattle.token_forms.specs.Parts.{token_texts}
use Rattle.token_forms.proofs.Joined.{no_texts, cut_texts}
use Rattle.def_tokens.specs.DefStatements.{statement_len, statements_within, def_statements}
use Rattle.def_tokens.proofs.DefCuts.{first_law}
use Rattle.def_syntax.proofs.FrameLaws.{each_append, each_front, each_behind}
use Rattle.def_layout.specs.Words.{is_whole}
use Rattle.def_layout.specs.NetForms.{IsIn, AreIn}
use Rattle.def_layout.proofs.Closing.{are_free}
use Rattle.def_layout.proofs.SectionWords.{part_number}
use Rattle.def_layout.proofs.SectionStatements.{statement_front}
use Rattle.def_layout.proofs.NetWritten.{all_both}
use Rattle.design_maker.specs.Numbers.{place_x, place_y}
use Rattle.design_maker.specs.Chains.{max_bits}
use Rattle.made_law.specs.Designs.Names.{unit, out_port}
use Rattle.made_law.specs.Designs.MadeComponents.{component_words}
use Rattle.made_law.specs.Designs.MadePins.{pin_words}
use Rattle.made_law.specs.Designs.MadeChains.{element_words, element_numbers, head_words, chain_words}
use Rattle.made_law.specs.Designs.MadeStatements.{flat, opening, closing, section}

-- tokens of these words are one statement
abbrev pub Shut : List (List ℕ) → Type 0
Shut ws = (s rest : List Token) → token_texts s ≡ ws → def_statements (s ++ rest) ≡ s ∷ def_statements rest

-- words before a semicolon, which open no other kind of statement
pub shut_before : (w : List ℕ) (ws : List (List ℕ)) → are_free (w ∷ ws) ≡ true → bytes_eq w (codes "END") ≡ false → bytes_eq w (codes "PROPERTYDEFINITIONS") ≡ false → bytes_eq w (codes "BEGINEXT") ≡ false → Shut ((w ∷ ws) ++ codes ";" ∷ [])
shut_before w ws free a b c [] rest e = absurd cc
shut_before w ws free a b c (t ∷ s) rest e = statement_front t s rest w ws e free a b c

pub shut_end : (word : List ℕ) → Shut (closing word)
unfolding statement_len
shut_end word [] rest e = absurd cc
shut_end word (t ∷ []) rest e = absurd cc
shut_end word (t ∷ u ∷ v ∷ s) rest e = absurd cc
shut_end word (t ∷ u ∷ []) rest e =
    let here : t.text ≡ codes "END" = cc in
    let two : min 2 (1 + length (u ∷ rest)) ≡ 2 = omega arith in
    let len : statement_len (t ∷ u ∷ rest) ≡ 2 = rw here two in
    first_law t (u ∷ rest) ∙ ap (λ (n : ℕ). take n (t ∷ u ∷ rest) ∷ def_statements (drop n (t ∷ u ∷ rest))) len

pub each_map : {X Y : Type 0} (P : Y → Type 0) (f : X → Y) → ((x : X) → P (f x)) → (xs : List X) → Each P (map f xs)
each_map P f h [] = tt
each_map P f h (x ∷ xs) = (h x, each_map P f h xs)

pub each_weaker : {X : Type 0} (P Q : X → Type 0) → ((x : X) → P x → Q x) → (xs : List X) → Each P xs → Each Q xs
each_weaker P Q f [] h = tt
each_weaker P Q f (x ∷ xs) h = (f x h.0, each_weaker P Q f xs h.1)

pub each_of : {X Y : Type 0} (P : X → Type 0) (Q : Y → Type 0) (f : X → Y) → ((x : X) → P x → Q (f x)) → (xs : List X) → Each P xs → Each Q (map f xs)
each_of P Q f h [] e = tt
each_of P Q f h (x ∷ xs) e = (h x e.0, each_of P Q f h xs e.1)

-- a decimal is no semicolon
pub number_open : (n : ℕ) → not (bytes_eq (decimal n) (codes ";")) ≡ true
number_open n = (and_parts (is_whole (decimal n)) (not (bytes_eq (decimal n) (codes ";"))) (part_number n)).1

pub shut_opening : (word count : List ℕ) → are_free (word ∷ count ∷ []) ≡ true → bytes_eq word (codes "END") ≡ false → bytes_eq word (codes "PROPERTYDEFINITIONS") ≡ false → bytes_eq word (codes "BEGINEXT") ≡ false
    → Shut (opening word count)
shut_opening word count free a b c = shut_before word (count ∷ []) free a b c

pub shut_component : (i : ℕ) → Shut (component_words i)
shut_component i =
    shut_before (codes "-") (unit i ∷ codes "SDF" ∷ codes "+" ∷ codes "PLACED" ∷ codes "(" ∷ decimal (place_x i) ∷ decimal (place_y i) ∷ codes ")" ∷ codes "N" ∷ [])
    (rw (number_open (place_x i), number_open (place_y i)) refl) refl refl refl

pub shut_pin : (name net : List ℕ) (place : Option (ℕ × ℕ)) → not (bytes_eq name (codes ";")) ≡ true → not (bytes_eq net (codes ";")) ≡ true → Shut (pin_words (record { name = name; net = net; place = place }))
shut_pin name net None a b = shut_before (codes "-") (name ∷ codes "+" ∷ codes "NET" ∷ net ∷ []) (rw (a, b) refl) refl refl refl
shut_pin name net (Some p) a b =
    shut_before (codes "-") (name ∷ codes "+" ∷ codes "NET" ∷ net ∷ codes "+" ∷ codes "PLACED" ∷ codes "(" ∷ decimal p.0 ∷ decimal p.1 ∷ codes ")" ∷ codes "N" ∷ [])
    (rw (a, b, number_open p.0, number_open p.1) refl) refl refl refl

free_elements : (k : ℕ) (ts : List ℕ) → are_free (flat_map (element_words k) ts) ≡ true
free_elements k [] = refl
free_elements k (t ∷ ts) = all_both (λ w. not (bytes_eq w (codes ";"))) (element_words k t) (flat_map (element_words k) ts) refl (free_elements k ts)

pub shut_chain : (n k : ℕ) → Shut (chain_words n k)
shut_chain n k =
    let es = flat_map (element_words k) (element_numbers n k) in
    let stop = codes "+" ∷ codes "STOP" ∷ codes "PIN" ∷ out_port k ∷ [] in
    let front = drop 1 (head_words n k) in
    let free : are_free (head_words n k ++ (es ++ stop)) ≡ true =
    all_both (λ w. not (bytes_eq w (codes ";"))) (head_words n k) (es ++ stop) (rw (number_open (max_bits n)) refl)
    (all_both (λ w. not (bytes_eq w (codes ";"))) es stop (free_elements k (element_numbers n k)) refl)
    in
    subst (λ (l : List (List ℕ)). Shut (head_words n k ++ l)) (append_assoc es stop (codes ";" ∷ [])) (shut_before (codes "-") (front ++ (es ++ stop)) free refl refl refl)

pub each_section : (word count : List ℕ) (inner behind : List (List (List ℕ))) → Shut (opening word count) → Each Shut inner → Each Shut behind → Each Shut (section word count inner behind)
each_section word count inner behind o i b = (o, each_append Shut inner (closing word ∷ behind) i (shut_end word, b))

-- tokens of the words of statements, cut into these
pub record Cuts (text : List ℕ) (ts : List Token) (ws : List (List (List ℕ))) : Type 0 where
  pub statements : List (List Token)
  pub is : def_statements ts ≡ statements
  pub words : map token_texts statements ≡ ws
  pub inside : Each (AreIn text) statements

no_statements : (ts : List Token) → ts ≡ [] → def_statements ts ≡ []
unfolding statements_within
no_statements ts e = ap def_statements e

pub cuts : (text : List ℕ) (ts : List Token) (ws : List (List (List ℕ))) → Each Shut ws → AreIn text ts → token_texts ts ≡ flat ws → Cuts text ts ws
cuts text ts [] shut inside e = record { statements = []; is = no_statements ts (no_texts ts e); words = refl; inside = tt }
cuts text ts (w ∷ ws) shut inside e =
    let c = cut_texts w (flat ws) ts e in
    let all = subst (AreIn text) c.is inside in
    let more = cuts text c.behind ws shut.1 (each_behind (IsIn text) c.front c.behind all) c.second in
    record {
      statements = c.front ∷ more.statements;
      is = ap def_statements c.is ∙ shut.0 c.front c.behind c.first ∙ ap (λ (l : List (List Token)). c.front ∷ l) more.is;
      words = rw (c.first, more.words) refl;
      inside = (each_front (IsIn text) c.front c.behind all, more.inside);
    }
