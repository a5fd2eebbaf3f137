-- The forms of the statements that are read, as the texts of their tokens (LEF 5.8). They are what Statements tests place by place.
use Rattle.std.specs.Prelude.{◌≡◌, ℕ, Bool, true, ◌&&◌, List, [], ◌∷◌, map, codes, ℤ, pos}
use Rattle.std.specs.Option.{unwrap_or}
use Rattle.token_forms.specs.Tokens.{Token}
use Rattle.def_tokens.specs.Numbers.{is_integer, is_decimal, decimal_of}
use Rattle.lef_pins.specs.Statements.{begins_size, is_size, size_values, begins_origin, is_origin, origin_values, is_read_rect, is_rect, rect_values}

-- the texts of tokens
abbrev pub texts_of : List Token → List (List ℕ)
texts_of s = map (λ t. t.text) s

-- the value of a decimal in millionths; 0 where it has none
abbrev pub value_of : List ℕ → ℤ
value_of text = unwrap_or (decimal_of text) (pos 0)

-- SIZE w BY h ;
pub record SpellsSize (s : List Token) : Type 0 where
  pub w : List ℕ
  pub h : List ℕ
  pub texts : texts_of s ≡ codes "SIZE" ∷ w ∷ codes "BY" ∷ h ∷ codes ";" ∷ []
  pub w_is : is_decimal w ≡ true
  pub h_is : is_decimal h ≡ true
  pub values : size_values s ≡ (value_of w, value_of h)

-- ORIGIN x y ;
pub record SpellsOrigin (s : List Token) : Type 0 where
  pub x : List ℕ
  pub y : List ℕ
  pub texts : texts_of s ≡ codes "ORIGIN" ∷ x ∷ y ∷ codes ";" ∷ []
  pub x_is : is_decimal x ≡ true
  pub y_is : is_decimal y ≡ true
  pub values : origin_values s ≡ (value_of x, value_of y)

-- four numbers
pub record Corners : Type 0 where
  pub x1 : List ℕ
  pub y1 : List ℕ
  pub x2 : List ℕ
  pub y2 : List ℕ

-- x1 y1 x2 y2 ;
abbrev pub corner_texts : Corners → List (List ℕ)
corner_texts c = c.x1 ∷ c.y1 ∷ c.x2 ∷ c.y2 ∷ codes ";" ∷ []

-- they are decimals, and the values of the statement are theirs
pub record AreCorners (s : List Token) (c : Corners) : Type 0 where
  pub x1_is : is_decimal c.x1 ≡ true
  pub y1_is : is_decimal c.y1 ≡ true
  pub x2_is : is_decimal c.x2 ≡ true
  pub y2_is : is_decimal c.y2 ≡ true
  pub values : rect_values s ≡ value_of c.x1 ∷ value_of c.y1 ∷ value_of c.x2 ∷ value_of c.y2 ∷ []

-- RECT x1 y1 x2 y2 ; or RECT MASK n x1 y1 x2 y2 ;
pub data SpellsRect (s : List Token) : Type 0 where
  Plain : (c : Corners) → texts_of s ≡ codes "RECT" ∷ corner_texts c → AreCorners s c → SpellsRect s
  Masked : (n : List ℕ) (c : Corners) → texts_of s ≡ codes "RECT" ∷ codes "MASK" ∷ n ∷ corner_texts c → is_integer n ≡ true → AreCorners s c → SpellsRect s

-- the tokens that pass a test are those of a form, with its values
pub record FormsAgree (test : List Token → Bool) (Spells : List Token → Type 0) : Type 0 where
  pub there : (s : List Token) → test s ≡ true → Spells s
  pub back : (s : List Token) → Spells s → test s ≡ true

-- of SIZE
abbrev pub SizeLaw : Type 0
SizeLaw = FormsAgree (λ s. begins_size s && is_size s) SpellsSize

-- of ORIGIN
abbrev pub OriginLaw : Type 0
OriginLaw = FormsAgree (λ s. begins_origin s && is_origin s) SpellsOrigin

-- of RECT
abbrev pub RectLaw : Type 0
RectLaw = FormsAgree (λ s. is_read_rect s && is_rect s) SpellsRect
