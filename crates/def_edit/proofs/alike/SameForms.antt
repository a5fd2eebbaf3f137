-- Which forms are spelled by words alone.
use Rattle.std.proofs.Common.{◌≡◌, ℕ, Bool, List, [], ◌∷◌, ◌++◌, codes, sym, ap, ◌∙◌, subst, inl, inr, Option, Some, None, IsSomeAnd}
use Rattle.std.proofs.lemmas.List.{map-append}
use Prim.Native.String.{String}
use Rattle.token_forms.specs.Tokens.{Token}
use Rattle.token_forms.specs.Parts.{token_texts}
use Rattle.token_forms.specs.Classes.{Class}
use Rattle.token_forms.specs.Forms.{Form, word, text, key, ◌&◌, made, made_if, ◌▸◌, ◌◂◌, ◌only_if◌, ◌or◌, maybe, many, some, passed, gathered, AllPass, Passing, depth_behind}
use Rattle.token_forms.proofs.Joined.{no_texts, CutTexts, cut_texts, word_joined, text_joined}
use Rattle.token_forms.proofs.Parted.{word_texts, text_texts}
use Rattle.def_edit.specs.Alike.ByWords.{IsByWords}

pub texts_both : (ts us : List Token) → token_texts (ts ++ us) ≡ token_texts ts ++ token_texts us
texts_both ts us = map-append (λ t. t.text) ts us

-- tokens of the same words are cut at the same word
pub cut_again : (ts us front back : List Token) → token_texts ts ≡ token_texts us → ts ≡ front ++ back → CutTexts (token_texts front) (token_texts back) us
cut_again ts us front back e is = cut_texts (token_texts front) (token_texts back) us (sym e ∙ ap token_texts is ∙ texts_both front back)

pub word_by : (w : List ℕ) → IsByWords (word w)
word_by w = record { same = λ x ts us e h. word_joined w us (sym e ∙ word_texts w ts h) }

pub text_by : (kind : Class) (test : List ℕ → Bool) → IsByWords (text kind test)
text_by kind test = record { same = λ x ts us e h. text_joined kind test x us h.kind_is h.passes (sym e ∙ text_texts kind test x ts h) }

module _ {A B : Type 0} (a : Form A) (b : Form B) where
  pub pair_by : IsByWords a → IsByWords b → IsByWords (a & b)
  pair_by f g =
      record {
        same = λ x ts us e h.
            let c = cut_again ts us h.front h.back e h.is in
            record { front = c.front; back = c.behind; is = c.is; first = f.same x.0 h.front c.front (sym c.first) h.first; second = g.same x.1 h.back c.behind (sym c.second) h.second };
      }

module _ {A X : Type 0} where
  pub made_by : (f : A → X) (a : Form A) → IsByWords a → IsByWords (made f a)
  made_by f a g = record { same = λ x ts us e h. record { parts = h.parts; is = h.is; holds = g.same h.parts ts us e h.holds } }

  pub made_if_by : (f : A → Option X) (a : Form A) → IsByWords a → IsByWords (made_if f a)
  made_if_by f a g = record { same = λ x ts us e h. record { parts = h.parts; is = h.is; holds = g.same h.parts ts us e h.holds } }

module _ {A : Type 0} where
  pub before_by : (w : String) (a : Form A) → IsByWords a → IsByWords (w ▸ a)
  before_by w a f = made_by (λ x. x.1) (key w & a) (pair_by (key w) a (word_by (codes w)) f)

  pub behind_by : (a : Form A) (w : String) → IsByWords a → IsByWords (a ◂ w)
  behind_by a w f = made_by (λ x. x.0) (a & key w) (pair_by a (key w) f (word_by (codes w)))

  pub only_by : (a : Form A) (test : A → Bool) → IsByWords a → IsByWords (a only_if test)
  only_by a test f = record { same = λ x ts us e h. record { holds = f.same x ts us e h.holds; passes = h.passes } }

  pub or_by : (a b : Form A) → IsByWords a → IsByWords b → IsByWords (a or b)
  or_by a b f g = record { same = λ x ts us e h. elim h [ inl k ↦ inl (f.same x ts us e k) | inr k ↦ inr (g.same x ts us e k) ] }

  maybe_same : (a : Form A) → IsByWords a → (o : Option A) (ts us : List Token) → token_texts ts ≡ token_texts us → (maybe a).spells o ts → (maybe a).spells o us
  maybe_same a f None ts us e h = no_texts us (sym e ∙ ap token_texts h)
  maybe_same a f (Some x) ts us e h = f.same x ts us e h

  pub maybe_by : (a : Form A) → IsByWords a → IsByWords (maybe a)
  maybe_by a f = record { same = maybe_same a f }

  many_same : (a : Form A) → IsByWords a → (xs : List A) (ts us : List Token) → token_texts ts ≡ token_texts us → (many a).spells xs ts → (many a).spells xs us
  many_same a f [] ts us e h = no_texts us (sym e ∙ ap token_texts h)
  many_same a f (x ∷ xs) ts us e h =
      let c = cut_again ts us h.front h.back e h.is in
      record { front = c.front; back = c.behind; is = c.is; first = f.same x h.front c.front (sym c.first) h.first; second = many_same a f xs h.back c.behind (sym c.second) h.second }

  pub many_by : (a : Form A) → IsByWords a → IsByWords (many a)
  many_by a f = record { same = many_same a f }

  pub some_by : (a : Form A) → IsByWords a → IsByWords (some a)
  some_by a f = made_by (λ x. x.0 ∷ x.1) (a & many a) (pair_by a (many a) f (many_by a f))

pub gathered_by : {S X : Type 0} (start : Form S) (put : S → X → Option S) (piece : Form X) → IsByWords start → IsByWords piece → IsByWords (gathered start put piece)
gathered_by start put piece f g = record { same = λ x ts us e h. record { parts = h.parts; is = h.is; holds = (pair_by start (many piece) f (many_by piece g)).same h.parts ts us e h.holds } }

some_weaker : (o : Option ℕ) (P Q : ℕ → Type 0) → ((d : ℕ) → P d → Q d) → IsSomeAnd o P → IsSomeAnd o Q
some_weaker None P Q f h = h
some_weaker (Some d) P Q f h = f d h

pass_same : (p : Passing) (depth : ℕ) (ts us : List Token) → token_texts ts ≡ token_texts us → AllPass p depth ts → AllPass p depth us
pass_same p depth [] [] e h = h
pass_same p depth [] (u ∷ us) e h = absurd cc
pass_same p depth (t ∷ ts) [] e h = absurd cc
pass_same p depth (t ∷ ts) (u ∷ us) e h =
    let here : t.text ≡ u.text = cc in
    let tail : token_texts ts ≡ token_texts us = cc in
    some_weaker (depth_behind p depth u.text) (λ d. AllPass p d ts) (λ d. AllPass p d us) (λ d. pass_same p d ts us tail)
    (subst (λ (w : List ℕ). IsSomeAnd (depth_behind p depth w) (λ d. AllPass p d ts)) here h)

pub passed_by : (p : Passing) → IsByWords (passed p)
passed_by p = record { same = λ x ts us e h. record { all = pass_same p 0 ts us e h.all } }
