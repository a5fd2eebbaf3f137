-- The statements of a macro that are read (LEF 5.8): SIZE, ORIGIN and RECT. The tokens of a statement are counted from 0.
use Rattle.std.specs.Prelude.{ℕ, ◌+◌, ◌==◌, Bool, ◌&&◌, ◌||◌, not, if◌then◌else◌, List, [], ◌∷◌, length, codes, is_some, ℤ, pos, slice_index_or}
use Rattle.std.specs.Option.{unwrap_or}
use Rattle.std.specs.Str.{bytes_eq}
use Rattle.token_forms.specs.Tokens.{Token}
use Rattle.def_tokens.specs.Numbers.{is_integer, is_decimal, decimal_of}

-- a token that isn't there
abbrev pub no_token : Token
no_token = record { text = []; start = 0; end = 0 }

-- the text of a token; no bytes where there is none
abbrev pub text_at : List Token → ℕ → List ℕ
text_at s k = (slice_index_or s k no_token).text

-- where the first token begins
abbrev pub start_of : List Token → ℕ
start_of s = (slice_index_or s 0 no_token).start

-- a token has this text
abbrev pub is_word_at : List Token → ℕ → List ℕ → Bool
is_word_at s k word = bytes_eq (text_at s k) word

-- two tokens are decimals
abbrev pub are_decimals : List Token → ℕ → ℕ → Bool
are_decimals s j k = is_decimal (text_at s j) && is_decimal (text_at s k)

-- two tokens have values: decimals with six fraction digits at most, within two metres
abbrev pub have_values : List Token → ℕ → ℕ → Bool
have_values s j k = is_some (decimal_of (text_at s j)) && is_some (decimal_of (text_at s k))

-- the value of a token in millionths; 0 where it has none
abbrev pub value_at : List Token → ℕ → ℤ
value_at s k = unwrap_or (decimal_of (text_at s k)) (pos 0)

-- SIZE w BY h ;
unfoldable pub is_size : List Token → Bool
is_size s = (length s == 5 && are_decimals s 1 3) && (is_word_at s 2 (codes "BY") && is_word_at s 4 (codes ";"))

-- ORIGIN x y ;
unfoldable pub is_origin : List Token → Bool
is_origin s = (length s == 4 && are_decimals s 1 2) && is_word_at s 3 (codes ";")

-- RECT MASK n ..
abbrev pub is_masked : List Token → Bool
is_masked s = is_word_at s 1 (codes "MASK")

-- the place of the first of the four numbers of a RECT
abbrev pub corner_place : List Token → ℕ
corner_place s = if is_masked s then 3 else 1

-- a RECT that is read: no ITERATE stands where its numbers would
unfoldable pub is_read_rect : List Token → Bool
is_read_rect s = is_word_at s 0 (codes "RECT") && not (is_word_at s (corner_place s) (codes "ITERATE"))

-- x1 y1 x2 y2 ; from a place on
abbrev pub are_corners : List Token → ℕ → Bool
are_corners s k = (length s == k + 5 && is_word_at s (k + 4) (codes ";")) && (are_decimals s k (k + 1) && are_decimals s (k + 2) (k + 3))

-- RECT x1 y1 x2 y2 ; or RECT MASK n x1 y1 x2 y2 ;
unfoldable pub is_rect : List Token → Bool
is_rect s = if is_masked s then is_integer (text_at s 2) && are_corners s 3 else are_corners s 1

-- the numbers of a RECT have values
unfoldable pub is_fit_rect : List Token → Bool
is_fit_rect s = have_values s (corner_place s) (corner_place s + 1) && have_values s (corner_place s + 2) (corner_place s + 3)

-- the values of four tokens from a place on
abbrev pub values_from : List Token → ℕ → List ℤ
values_from s k = value_at s k ∷ value_at s (k + 1) ∷ value_at s (k + 2) ∷ value_at s (k + 3) ∷ []

-- the four values of a RECT
unfoldable pub rect_values : List Token → List ℤ
rect_values s = values_from s (corner_place s)

-- the first word is SIZE
unfoldable pub begins_size : List Token → Bool
begins_size s = is_word_at s 0 (codes "SIZE")

-- the first word is ORIGIN
unfoldable pub begins_origin : List Token → Bool
begins_origin s = is_word_at s 0 (codes "ORIGIN")

-- the numbers of a SIZE have values
unfoldable pub is_fit_size : List Token → Bool
is_fit_size s = have_values s 1 3

-- those of an ORIGIN have values
unfoldable pub is_fit_origin : List Token → Bool
is_fit_origin s = have_values s 1 2

-- the values of a SIZE
unfoldable pub size_values : List Token → ℤ × ℤ
size_values s = (value_at s 1, value_at s 3)

-- the values of an ORIGIN
unfoldable pub origin_values : List Token → ℤ × ℤ
origin_values s = (value_at s 1, value_at s 2)

-- a RECT that is read and is of no form
abbrev pub is_bad_rect : List Token → Bool
is_bad_rect s = is_read_rect s && not (is_rect s)

-- a SIZE of no form, or where one stood before; or an ORIGIN of no form
abbrev pub is_bad : Bool → List Token → Bool
is_bad sized s = if begins_size s then not (is_size s) || sized else begins_origin s && not (is_origin s)

-- a RECT of its form, with a number that has no value
abbrev pub is_far_rect : List Token → Bool
is_far_rect s = is_read_rect s && (is_rect s && not (is_fit_rect s))

-- a SIZE or an ORIGIN of its form, with a number that has no value
abbrev pub is_far : List Token → Bool
is_far s = if begins_size s then is_size s && not (is_fit_size s) else begins_origin s && (is_origin s && not (is_fit_origin s))
