-- The tokens of lines of words.
use Rattle.std.proofs.Common.{◌≡◌, ℕ, zero, suc, ◌+◌, true, false, List, [], ◌∷◌, ◌++◌, map, refl, sym, ap, ◌∙◌, append_assoc, arith}
use Rattle.std.specs.List.{list_all, flat_map, range_with_len}
use Rattle.std.proofs.lemmas.List.{append-nil, map-append}
use Rattle.std.proofs.lemmas.List.Concat.{flat_map-append}
use Rattle.std.proofs.lemmas.Bool.{and_parts}
use Rattle.def_tokens.specs.DefSplit.{goes_on}
use Rattle.def_layout.specs.Words.{texts, is_whole, HasWords}
use Rattle.def_layout.proofs.WordTokens.{whole_texts, blank_texts, words_behind, no_words}
use Rattle.design_maker.specs.Pieces.{pieces}
use Rattle.made_law.specs.Designs.MadeStatements.{flat}

-- each word with a blank before it, before a text
abbrev pub led : List (List ℕ) → List ℕ → List ℕ
led [] behind = behind
led (w ∷ ws) behind = 32 ∷ (w ++ led ws behind)

-- words with a blank between each two, before a text
abbrev pub line : List (List ℕ) → List ℕ → List ℕ
line [] behind = behind
line (w ∷ ws) behind = w ++ led ws behind

parted : (ws : List (List ℕ)) (behind z : List ℕ) → goes_on (behind ++ z) ≡ false → goes_on (led ws behind ++ z) ≡ false
parted [] behind z free = free
parted (w ∷ ws) behind z free = refl

led_texts : (ws : List (List ℕ)) (behind z : List ℕ) → list_all is_whole ws ≡ true → goes_on (behind ++ z) ≡ false → texts (led ws behind ++ z) ≡ ws ++ texts (behind ++ z)
led_texts [] behind z all free = refl
led_texts (w ∷ ws) behind z all free =
    let h = and_parts (is_whole w) (list_all is_whole ws) all in
    blank_texts 32 ((w ++ led ws behind) ++ z) refl ∙ ap texts (append_assoc w (led ws behind) z)
    ∙ whole_texts w (led ws behind ++ z) h.0 (parted ws behind z free)
    ∙ ap (λ (l : List (List ℕ)). w ∷ l) (led_texts ws behind z h.1 free)

line_texts : (ws : List (List ℕ)) (behind z : List ℕ) → list_all is_whole ws ≡ true → goes_on (behind ++ z) ≡ false → texts (line ws behind ++ z) ≡ ws ++ texts (behind ++ z)
line_texts [] behind z all free = refl
line_texts (w ∷ ws) behind z all free =
    let h = and_parts (is_whole w) (list_all is_whole ws) all in
    ap texts (append_assoc w (led ws behind) z) ∙ whole_texts w (led ws behind ++ z) h.0 (parted ws behind z free)
    ∙ ap (λ (l : List (List ℕ)). w ∷ l) (led_texts ws behind z h.1 free)

-- words that stand open: what follows begins with no byte that goes on
pub led_words : (ws : List (List ℕ)) → list_all is_whole ws ≡ true → HasWords (led ws []) ws
led_words ws all = record { goes = λ z free. led_texts ws [] z all free }

pub line_words : (ws : List (List ℕ)) → list_all is_whole ws ≡ true → HasWords (line ws []) ws
line_words ws all = record { goes = λ z free. line_texts ws [] z all free }

-- a list of numbers, and one more
range_last : (a n j : ℕ) → a + n ≡ j → range_with_len a (suc n) ≡ range_with_len a n ++ j ∷ []
range_last a zero j e = let same : a ≡ j = omega arith in ap (λ (k : ℕ). k ∷ []) same
range_last a (suc n) j e = ap (λ (l : List ℕ). a ∷ l) (range_last (a + 1) n j (omega arith))

flat_last : (f : ℕ → List (List ℕ)) (n : ℕ) → flat_map f (range_with_len 0 (suc n)) ≡ flat_map f (range_with_len 0 n) ++ f n
flat_last f n =
    ap (λ (l : List ℕ). flat_map f l) (range_last 0 n n (omega arith)) ∙ flat_map-append f (range_with_len 0 n) (n ∷ [])
    ∙ ap (λ (l : List (List ℕ)). flat_map f (range_with_len 0 n) ++ l) (append-nil (f n))

map_last : (f : ℕ → List (List ℕ)) (n : ℕ) → map f (range_with_len 0 (suc n)) ≡ map f (range_with_len 0 n) ++ f n ∷ []
map_last f n = ap (λ (l : List ℕ). map f l) (range_last 0 n n (omega arith)) ∙ map-append f (range_with_len 0 n) (n ∷ [])

-- a piece for each number, each with a blank before it
pub open_pieces : (piece : ℕ → List ℕ) (words : ℕ → List (List ℕ)) → ((i : ℕ) → HasWords (piece i) (words i)) → ((i : ℕ) (z : List ℕ) → goes_on (piece i ++ z) ≡ false) → (n : ℕ)
    → HasWords (pieces piece n) (flat_map words (range_with_len 0 n))
unfolding pieces
open_pieces piece words has free zero = no_words
open_pieces piece words has free (suc n) =
    let r = words_behind (pieces piece n) (piece n) (flat_map words (range_with_len 0 n)) (words n) (free n) (open_pieces piece words has free n) (has n) in
    record { goes = λ z f. r.goes z f ∙ ap (λ (l : List (List ℕ)). l ++ texts z) (sym (flat_last words n)) }

-- statements, each a line of its own, whatever stands behind them
pub record Lines (text : List ℕ) (ss : List (List (List ℕ))) : Type 0 where
  pub goes : (z : List ℕ) → texts (text ++ z) ≡ flat ss ++ texts z

pub no_lines : Lines [] []
no_lines = record { goes = λ z. refl }

-- a line, and those behind it
pub line_and : (ws : List (List ℕ)) (behind : List ℕ) (ss : List (List (List ℕ))) → list_all is_whole ws ≡ true → Lines behind ss → Lines (line ws (10 ∷ behind)) (ws ∷ ss)
line_and ws behind ss all more = record {
  goes = λ z.
      line_texts ws (10 ∷ behind) z all refl ∙ ap (λ (l : List (List ℕ)). ws ++ l) (blank_texts 10 (behind ++ z) refl ∙ more.goes z)
      ∙ sym (append_assoc ws (flat ss) (texts z));
}

pub one_line : (ws : List (List ℕ)) → list_all is_whole ws ≡ true → Lines (line ws (10 ∷ [])) (ws ∷ [])
one_line ws all = line_and ws [] [] all no_lines

-- words with a blank before each, and the end of the line
pub led_line : (ws : List (List ℕ)) → list_all is_whole ws ≡ true → Lines (led ws (10 ∷ [])) (ws ∷ [])
led_line ws all = record {
  goes = λ z. led_texts ws (10 ∷ []) z all refl ∙ ap (λ (l : List (List ℕ)). ws ++ l) (blank_texts 10 z refl) ∙ ap (λ (l : List (List ℕ)). l ++ texts z) (sym (append-nil ws));
}

-- open words before those that end the line
pub open_line : (x y : List ℕ) (us ws : List (List ℕ)) → ((z : List ℕ) → goes_on (y ++ z) ≡ false) → HasWords x us → Lines y (ws ∷ []) → Lines (x ++ y) ((us ++ ws) ∷ [])
open_line x y us ws free has ends = record {
  goes = λ z.
      ap texts (append_assoc x y z) ∙ has.goes (y ++ z) (free z)
      ∙ ap (λ (l : List (List ℕ)). us ++ l) (ends.goes z ∙ ap (λ (l : List (List ℕ)). l ++ texts z) (append-nil ws))
      ∙ sym (append_assoc us ws (texts z)) ∙ ap (λ (l : List (List ℕ)). l ++ texts z) (sym (append-nil (us ++ ws)));
}

-- what stands behind open pieces begins with a blank
pub pieces_free : (piece : ℕ → List ℕ) → ((i : ℕ) (z : List ℕ) → goes_on (piece i ++ z) ≡ false) → (n : ℕ) (y z : List ℕ) → goes_on (y ++ z) ≡ false → goes_on ((pieces piece n ++ y) ++ z) ≡ false
unfolding pieces
pieces_free piece free zero y z e = e
pieces_free piece free (suc n) y z e =
    ap (λ (l : List ℕ). goes_on (l ++ z)) (append_assoc (pieces piece n) (piece n) y)
    ∙ pieces_free piece free n (piece n ++ y) z (ap goes_on (append_assoc (piece n) y z) ∙ free n (y ++ z))

-- a line, and the lines behind it
pub both_lines : (x y : List ℕ) (ss us : List (List (List ℕ))) → Lines x ss → Lines y us → Lines (x ++ y) (ss ++ us)
both_lines x y ss us f g = record {
  goes = λ z.
      ap texts (append_assoc x y z) ∙ f.goes (y ++ z) ∙ ap (λ (l : List (List ℕ)). flat ss ++ l) (g.goes z) ∙ sym (append_assoc (flat ss) (flat us) (texts z))
      ∙ ap (λ (l : List (List ℕ)). l ++ texts z) (sym (flat_map-append (λ s. s) ss us));
}

-- a line for each number
pub line_pieces : (piece : ℕ → List ℕ) (words : ℕ → List (List ℕ)) → ((i : ℕ) → Lines (piece i) (words i ∷ [])) → (n : ℕ) → Lines (pieces piece n) (map words (range_with_len 0 n))
unfolding pieces
line_pieces piece words has zero = no_lines
line_pieces piece words has (suc n) =
    let r = both_lines (pieces piece n) (piece n) (map words (range_with_len 0 n)) (words n ∷ []) (line_pieces piece words has n) (has n) in
    record { goes = λ z. r.goes z ∙ ap (λ (l : List (List (List ℕ))). flat l ++ texts z) (sym (map_last words n)) }
