-- Statements of one form, one behind the other, and what they make.
use Rattle.std.proofs.Common.{◌≡◌, ℕ, zero, suc, Bool, false, List, [], ◌∷◌, ◌++◌, map, refl, sym, ap, ◌∙◌, subst}
use Rattle.std.specs.List.{AllByRecursion as Each}
use Rattle.std.proofs.lemmas.List.{append-nil}
use Rattle.base_types.specs.Lines.{line_at}
use Rattle.token_forms.specs.Tokens.{Token, place_of}
use Rattle.token_forms.specs.Parts.{token_texts}
use Rattle.token_forms.specs.Forms.{Form}
use Rattle.def_syntax.specs.Frames.{start_of}
use Rattle.def_syntax.specs.Designs.{AreLocated}
use Rattle.def_syntax.specs.declared.design.Located.{Located}
use Rattle.def_layout.specs.NetForms.{AreIn}
use Rattle.made_law.specs.Designs.Places.{Place, placed}

-- a value where the statement stands
abbrev pub at_statement : {X : Type 0} → List ℕ → List Token → X → Located X
at_statement text s x = record { statement = x; span = place_of s; line = line_at text (start_of s) }

-- a place before others
abbrev pub first_place : Place → (ℕ → Place) → ℕ → Place
first_place p at zero = p
first_place p at (suc k) = at k

abbrev no_place : ℕ → Place
no_place k = record { line = 0; span = record { start = 0; end = 0 } }

-- rows of a kind: a row's words, the form of their statement, what is made of it beside a context, and what would be wrong with it
module _ {C X Y I : Type 0} (form : Form X) (text : List ℕ) (words : I → List (List ℕ)) (from : C → Located X → Y) (make : Place → I → Y) (bad : X → Bool) (Good : I → Type 0) where
  pub record Row (x : I) (s : List Token) : Type 0 where
    pub value : X
    pub spelled : form.spells value s
    pub place : Place
    pub is : (c : C) → from c (at_statement text s value) ≡ make place x
    pub fits : bad value ≡ false

  pub record Rows (xs : List I) (ss : List (List Token)) : Type 0 where
    pub rows : List (Located X)
    pub located : AreLocated form text ss rows
    pub at : ℕ → Place
    pub is : (c : C) → map (from c) rows ≡ placed make at xs
    pub fits : Each (λ r. bad r.statement ≡ false) rows

  pub rows_of : ((x : I) (s : List Token) → Good x → AreIn text s → token_texts s ≡ words x → Row x s) → (xs : List I) (ss : List (List Token)) → Each Good xs → Each (AreIn text) ss → map token_texts ss ≡ map words xs → Rows xs ss
  rows_of law [] [] good inside e = record { rows = []; located = tt; at = no_place; is = λ c. refl; fits = tt }
  rows_of law [] (s ∷ ss) good inside e = absurd cc
  rows_of law (x ∷ xs) [] good inside e = absurd cc
  rows_of law (x ∷ xs) (s ∷ ss) good inside e =
      let here : token_texts s ≡ words x = cc in
      let tail : map token_texts ss ≡ map words xs = cc in
      let r = law x s good.0 inside.0 here in
      let more = rows_of law xs ss good.1 inside.1 tail in
      record {
        rows = at_statement text s r.value ∷ more.rows;
        located = (record { spelled = r.spelled; span = refl; line = refl }, more.located);
        at = first_place r.place more.at;
        is = λ c. ap (λ (y : Y). y ∷ map (from c) more.rows) (r.is c) ∙ ap (λ (l : List Y). make r.place x ∷ l) (more.is c);
        fits = (r.fits, more.fits);
      }

  -- the same before no statements
  pub located_nil : (xs : List I) (ss : List (List Token)) → (r : Rows xs ss) → AreLocated form text (ss ++ []) r.rows
  located_nil xs ss r = subst (λ (l : List (List Token)). AreLocated form text l r.rows) (sym (append-nil ss)) r.located
