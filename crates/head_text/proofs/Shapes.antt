-- The names of a list of cells, as they stand before other bytes.
use Rattle.std.specs.Prelude.{⊤}
use Rattle.std.proofs.Common.{◌≡◌, ℕ, zero, suc, ◌+◌, ◌-◌, ◌<◌, ◌≤◌, Bool, true, false, cond, eqb, ◌&&◌, ◌||◌, not, inl, inr, List, [], ◌∷◌, ◌++◌, length, take, drop, codes, Option, Some, None, refl, sym, ap, ◌∙◌, subst, arith, append_assoc, length-append}
use Rattle.std.specs.List.{flat_map, AllByRecursion as Each}
use Rattle.std.specs.Str.{bytes_eq}
use Rattle.std.proofs.lemmas.Bool.{cases_Bool, true≢false, eqb-false}
use Rattle.std.proofs.lemmas.List.{append-nil}
use Rattle.std.proofs.lemmas.Slice.Eq.{bytes_eq-Decides}
use Rattle.base_types.specs.declared.span.Span.{Span}
use Rattle.base_types.proofs.TruthValues.{and_false}
use Rattle.token_forms.specs.declared.piece.Piece.TheVariants.{Blank, Token as token}
use Rattle.token_forms.specs.Classes.{But, is_in}
use Rattle.token_forms.specs.Tokens.{Token, front_of}
use Rattle.stil_tokens.specs.StilSplit.{goes_on}
use Rattle.stil_tokens.specs.StilStatements.{is_only}
use Rattle.stil_tokens.specs.StilTokens.{is_run, piece_at, tokens_in}
use Rattle.stil_syntax.specs.Names.{marks, begins_with, is_word, is_string, inner, string_at, name_at}
use Rattle.stil_blocks.specs.Statements.{begins_word, is_end}
use Rattle.head_alike.specs.Steps.{starts_behind}
use Rattle.head_alike.proofs.Words.{word_free, string_free}
use Rattle.head_alike.proofs.Names.{name_word, name_string, name_none}
use Rattle.head_text.specs.Mixes.{bytes_in, piece_for, AreLaid, laid, token_of_bytes, AreFreePieces}
use Rattle.head_text.specs.Written.{name_in, name_read, name_texts_within, name_texts}
use Rattle.head_text.proofs.Mixes.{tokens_laid}
use Rattle.head_text.proofs.Cutting.{Pieces}
use Rattle.head_text.proofs.Singles.{laid_alone, IsRunText, IsQuoteText, run_text, quote_text}

-- the next token is no run right behind a place
abbrev pub Apart : ℕ → List Token → Type 0
Apart place [] = ⊤
Apart place (u ∷ us) = (is_word u.text && eqb u.start place) ≡ false

-- a name as pieces: it stands before what is no run, and is read as itself wherever it stands
pub record NameShape (name : List ℕ) : Type 0 where
  pub first : List ℕ
  pub others : Pieces
  pub is : first ++ bytes_in others ≡ name
  pub stands : (r : List ℕ) → goes_on r ≡ false → AreLaid r ((true, first) ∷ others)
  pub free : AreFreePieces ((true, first) ∷ others)
  pub reads : (at : ℕ) (ts : List Token) → Apart (at + length name) ts → name_at (laid at ((true, first) ∷ others) ++ ts) ≡ Some (name_read name, ts)
  pub no_mark : bytes_eq first (codes "!") ≡ false
  pub no_end : is_only 59 first ≡ false

-- words and texts in quotes are no marks
no_word : (w v : List ℕ) → is_word v ≡ false → is_word w ≡ true → bytes_eq w v ≡ false
no_word w v bad good = elim (cases_Bool (bytes_eq w v)) [
  | inl e ↦ absurd (true≢false (sym good ∙ ap is_word ((bytes_eq-Decides w v).0 e) ∙ bad))
  | inr e ↦ e
]

no_text : (w v : List ℕ) → is_string v ≡ false → is_string w ≡ true → bytes_eq w v ≡ false
no_text w v bad good = elim (cases_Bool (bytes_eq w v)) [
  | inl e ↦ absurd (true≢false (sym good ∙ ap is_string ((bytes_eq-Decides w v).0 e) ∙ bad))
  | inr e ↦ e
]

free_end : (w : List ℕ) → starts_behind w ≡ false → is_only 59 w ≡ false
free_end w e = mid (is_only 123 w) (is_only 125 w) (is_only 59 w) _ _ e
  where
    mid : (a b c d f : Bool) → ((a || (b || (c || d))) || f) ≡ false → c ≡ false
    mid a b false d f e = refl
    mid true b true d f e = absurd cc
    mid false true true d f e = absurd cc
    mid false false true d f e = absurd cc

no_run : (w : List ℕ) → is_string w ≡ true → is_word w ≡ false
no_run [] e = absurd cc
no_run (b ∷ bs) e = ap (λ (k : Bool). is_in (But marks) (b ∷ bs) && not (k || (eqb b 39 || eqb b 123))) e ∙ and_false (is_in (But marks) (b ∷ bs))

same_place : (n : ℕ) → eqb n n ≡ true
same_place n = elim (cases_Bool (eqb n n)) [ inl e ↦ e | inr e ↦ absurd (let k = eqb-false n n e in omega (arith, k)) ]

-- what the bytes of pieces are read as
read_of : (ps : Pieces) → AreLaid [] ps → name_read (bytes_in ps) ≡ name_in (name_at (laid 0 ps))
read_of ps are = ap (λ (l : List Token). name_in (name_at l)) (tokens_laid ps are)

string_apart : (t : Token) (ts : List Token) → Apart t.end ts → string_at t ts ≡ (inner t.text, ts)
string_apart t [] e = refl
string_apart t (u ∷ us) e = ap (λ (b : Bool). cond b (inner t.text ++ u.text, us) (inner t.text, u ∷ us)) e

string_meets : (q w : List ℕ) (at : ℕ) (ts : List Token) → is_word w ≡ true
    → string_at (token_of_bytes q at) (token_of_bytes w (at + length q) ∷ ts) ≡ (inner q ++ w, ts)
string_meets q w at ts e = let k = same_place (at + length q) in rw (e, k) refl

pub run_shape : (w : List ℕ) → is_word w ≡ true → IsRunText w → NameShape w
run_shape w word x =
    let alone : AreLaid [] ((true, w) ∷ []) = (x.some, x.stands [] refl, tt) in
    let read : name_read w ≡ w = ap name_read (sym (append-nil w)) ∙ read_of ((true, w) ∷ []) alone ∙ ap name_in (name_word (token_of_bytes w 0) [] word) in
    record {
      first = w;
      others = [];
      is = append-nil w;
      stands = λ r stops. (x.some, x.stands r stops, tt);
      free = (λ e. word_free w word, tt);
      reads = λ at ts apart. name_word (token_of_bytes w at) ts word ∙ ap (λ (n : List ℕ). Some (n, ts)) (sym read);
      no_mark = no_word w (codes "!") refl word;
      no_end = free_end w (word_free w word);
    }

pub quote_shape : (q : List ℕ) → is_string q ≡ true → IsQuoteText q → NameShape q
quote_shape q text x =
    let alone : AreLaid [] ((true, q) ∷ []) = (x.some, x.stands [], tt) in
    let reads : (at : ℕ) (ts : List Token) → Apart (at + length q) ts → name_at (token_of_bytes q at ∷ ts) ≡ Some (inner q, ts)
    = λ at ts apart. name_string (token_of_bytes q at) ts (no_run q text) text ∙ ap (λ (p : List ℕ × List Token). Some p) (string_apart (token_of_bytes q at) ts apart) in
    let read : name_read q ≡ inner q = ap name_read (sym (append-nil q)) ∙ read_of ((true, q) ∷ []) alone ∙ ap name_in (reads 0 [] tt) in
    record {
      first = q;
      others = [];
      is = append-nil q;
      stands = λ r stops. (x.some, x.stands r, tt);
      free = (λ e. string_free q text, tt);
      reads = λ at ts apart. reads at ts apart ∙ ap (λ (n : List ℕ). Some (n, ts)) (sym read);
      no_mark = no_text q (codes "!") refl text;
      no_end = free_end q (string_free q text);
    }

pub joined_shape : (q w : List ℕ) → is_string q ≡ true → IsQuoteText q → is_word w ≡ true → IsRunText w → NameShape (q ++ w)
joined_shape q w text x word y =
    let bytes : q ++ (w ++ []) ≡ q ++ w = ap (λ (l : List ℕ). q ++ l) (append-nil w) in
    let alone : AreLaid [] ((true, q) ∷ (true, w) ∷ []) = (x.some, x.stands ((w ++ []) ++ []), (y.some, y.stands [] refl, tt)) in
    let reads : (at : ℕ) (ts : List Token) → name_at (token_of_bytes q at ∷ token_of_bytes w (at + length q) ∷ ts) ≡ Some (inner q ++ w, ts)
    = λ at ts. name_string (token_of_bytes q at) (token_of_bytes w (at + length q) ∷ ts) (no_run q text) text ∙ ap (λ (p : List ℕ × List Token). Some p) (string_meets q w at ts word) in
    let read : name_read (q ++ w) ≡ inner q ++ w = ap name_read (sym bytes) ∙ read_of ((true, q) ∷ (true, w) ∷ []) alone ∙ ap name_in (reads 0 []) in
    record {
      first = q;
      others = (true, w) ∷ [];
      is = bytes;
      stands = λ r stops. (x.some, x.stands ((w ++ []) ++ r), (y.some, y.stands r stops, tt));
      free = (λ e. string_free q text, (λ e. word_free w word, tt));
      reads = λ at ts apart. reads at ts ∙ ap (λ (n : List ℕ). Some (n, ts)) (sym read);
      no_mark = no_text q (codes "!") refl text;
      no_end = free_end q (string_free q text);
    }

-- a token that stands so wherever it is a word or a text in quotes
pub record IsFine (w : List ℕ) : Type 0 where
  pub run : is_word w ≡ true → IsRunText w
  pub quote : is_string w ≡ true → IsQuoteText w

text_one : (t : Token) (ts : List Token) → flat_map (λ (u : Token). u.text) (front_of (t ∷ ts) ts) ≡ t.text
text_one t ts =
    let n : length (t ∷ ts) - length ts ≡ suc zero = omega arith in
    ap (λ (k : ℕ). flat_map (λ (u : Token). u.text) (take k (t ∷ ts))) n ∙ append-nil t.text

text_two : (t u : Token) (ts : List Token) → flat_map (λ (u : Token). u.text) (front_of (t ∷ u ∷ ts) ts) ≡ t.text ++ u.text
text_two t u ts =
    let n : length (t ∷ u ∷ ts) - length ts ≡ suc (suc zero) = omega arith in
    ap (λ (k : ℕ). flat_map (λ (u : Token). u.text) (take k (t ∷ u ∷ ts))) n ∙ ap (λ (l : List ℕ). t.text ++ l) (append-nil u.text)

abbrev named : ℕ → List Token → Option (List ℕ × List Token) → List (List ℕ)
named n ts o = elim o [ None ↦ [] | Some name ↦ flat_map (λ (u : Token). u.text) (front_of ts name.1) ∷ name_texts_within n name.1 ]

each_cond : (b : Bool) (xs ys : List (List ℕ)) → Each NameShape xs → Each NameShape ys → Each NameShape (cond b xs ys)
each_cond true xs ys p q = p
each_cond false xs ys p q = q

module _ (n : ℕ) (more : (ts : List Token) → Each (λ t. IsFine t.text) ts → Each NameShape (name_texts_within n ts)) where
  string_names : (t : Token) (ts : List Token) → is_string t.text ≡ true → IsFine t.text → Each (λ t. IsFine t.text) ts → Each NameShape (named n (t ∷ ts) (Some (string_at t ts)))
  string_names t [] e fine each = (subst NameShape (sym (text_one t [])) (quote_shape t.text e (fine.quote e)), more [] each)
  string_names t (u ∷ us) e fine each = by (is_word u.text) (eqb u.start t.end) refl
    where
      by : (a b : Bool) → is_word u.text ≡ a → Each NameShape (named n (t ∷ u ∷ us) (Some (cond (a && b) (inner t.text ++ u.text, us) (inner t.text, u ∷ us))))
      by true true f = (subst NameShape (sym (text_two t u us)) (joined_shape t.text u.text e (fine.quote e) f (each.0.run f)), more us each.1)
      by true false f = (subst NameShape (sym (text_one t (u ∷ us))) (quote_shape t.text e (fine.quote e)), more (u ∷ us) each)
      by false b f = (subst NameShape (sym (text_one t (u ∷ us))) (quote_shape t.text e (fine.quote e)), more (u ∷ us) each)

  token_names : (t : Token) (ts : List Token) (a b : Bool) → is_word t.text ≡ a → is_string t.text ≡ b → IsFine t.text → Each (λ t. IsFine t.text) ts → Each NameShape (named n (t ∷ ts) (name_at (t ∷ ts)))
  token_names t ts true b e f fine each =
      subst (λ (o : Option (List ℕ × List Token)). Each NameShape (named n (t ∷ ts) o)) (sym (name_word t ts e)) (subst NameShape (sym (text_one t ts)) (run_shape t.text e (fine.run e)), more ts each)
  token_names t ts false true e f fine each =
      subst (λ (o : Option (List ℕ × List Token)). Each NameShape (named n (t ∷ ts) o)) (sym (name_string t ts e f)) (string_names t ts f fine each)
  token_names t ts false false e f fine each = subst (λ (o : Option (List ℕ × List Token)). Each NameShape (named n (t ∷ ts) o)) (sym (name_none t ts e f)) tt

shapes_within : (n : ℕ) (ts : List Token) → Each (λ t. IsFine t.text) ts → Each NameShape (name_texts_within n ts)
unfolding name_texts_within
shapes_within zero ts each = tt
shapes_within (suc n) [] each = tt
shapes_within (suc n) (t ∷ ts) each =
    each_cond (bytes_eq t.text (codes "!")) _ _ (shapes_within n ts each.1) (token_names n (λ ts each. shapes_within n ts each) t ts (is_word t.text) (is_string t.text) refl refl each.0 each.1)

quote_by : (w r : List ℕ) → 0 < length w → 0 < length r → is_string w ≡ true → piece_at (w ++ r) ≡ token (length w) → IsQuoteText w
quote_by w [] some more e is = absurd (omega arith)
quote_by w (c ∷ r) some more e is = quote_text w c r some e is

fine_pieces : (ps : Pieces) (c : ℕ) (z : List ℕ) (at : ℕ) → AreLaid (c ∷ z) ps → Each (λ t. IsFine t.text) (laid at ps)
fine_pieces [] c z at are = tt
fine_pieces ((true, w) ∷ ps) c z at are =
    let left : 0 < length (bytes_in ps ++ c ∷ z) = omega (arith, length-append (bytes_in ps) (c ∷ z)) in
    (record { run = λ e. run_text w (bytes_in ps ++ c ∷ z) are.0 e are.1; quote = λ e. quote_by w (bytes_in ps ++ c ∷ z) are.0 left e are.1 }, fine_pieces ps c z (at + length w) are.2)
fine_pieces ((false, w) ∷ ps) c z at are = fine_pieces ps c z (at + length w) are.2

-- the names between a word and its ;
pub shapes_of : (ps : Pieces) (c : ℕ) (z : List ℕ) → AreLaid (c ∷ z) ps → Each NameShape (name_texts_within (length (tokens_in (bytes_in ps))) (tokens_in (bytes_in ps)))
shapes_of ps c z are =
    subst (λ (ts : List Token). Each NameShape (name_texts_within (length ts) ts)) (sym (tokens_laid ps (laid_alone ps (c ∷ z) are))) (shapes_within (length (laid 0 ps)) (laid 0 ps) (fine_pieces ps c z 0 are))
