-- The options of a statement: each is a `+`, and what stands behind it up to the next `+` outside brackets or the `;`. A
-- bracket that closes nothing passes, and what stays open runs to the `;`.
use Rattle.std.specs.Prelude.{◌≡◌, ℕ, ◌+◌, ◌-◌, Bool, true, false, ◌&&◌, ◌||◌, not, ◌==◌, if◌then◌else◌, List, [], ◌∷◌, ◌++◌, Option, Some, None, codes}
use Rattle.std.specs.Str.{bytes_eq}
use Rattle.token_forms.specs.Tokens.{Token}
use Rattle.token_forms.specs.Parsing.{◌>>=◌}
use Rattle.token_forms.specs.Classes.{Class, Only, But, are_apart, all_apart, begins}
use Rattle.token_forms.specs.Forms.{Form, IsMade, IsMadeIf, many_at, many, maybe, ◌&◌, put_all, gathered_at}

-- how many brackets are open behind a token
abbrev pub open_behind : ℕ → List ℕ → ℕ
open_behind depth text = if bytes_eq text (codes "(") then depth + 1 else (if bytes_eq text (codes ")") then depth - 1 else depth)

-- a token stands in an option in which so many brackets are open: it is no `;`, and no `+` outside brackets
abbrev pub may_stand : ℕ → List ℕ → Bool
may_stand depth text = not (bytes_eq text (codes ";")) && (not (bytes_eq text (codes "+")) || not (depth == 0))

-- each of some tokens does
unfoldable pub all_stand : ℕ → List Token → Bool
all_stand depth [] = true
all_stand depth (t ∷ ts) = may_stand depth t.text && all_stand (open_behind depth t.text) ts

-- how many brackets are open behind them
unfoldable pub open_after : ℕ → List Token → ℕ
open_after depth [] = depth
open_after depth (t ∷ ts) = open_after (open_behind depth t.text) ts

-- the text of the first token
abbrev pub first_word : List Token → Option (List ℕ)
first_word [] = None
first_word (t ∷ ts) = Some t.text

-- tokens of an option that isn't read, whose first one, if there is one, has this text and is none of the words that are
-- read; where it is closed, their brackets are
pub record IsUnread (closed : Bool) (read : List (List ℕ)) (word : Option (List ℕ)) (ts : List Token) : Type 0 where
  pub stand : all_stand 0 ts ≡ true
  pub shut : closed ≡ true → open_after 0 ts ≡ 0
  pub free : begins (Only read ∷ []) ts ≡ false
  pub first : first_word ts ≡ word

-- what is left behind the tokens that stand in the option, and the brackets that are open there
unfoldable pub rest_at : ℕ → List Token → List Token
rest_at depth [] = []
rest_at depth (t ∷ ts) = if may_stand depth t.text then rest_at (open_behind depth t.text) ts else t ∷ ts

-- how many brackets are open behind the tokens that stand in the option
unfoldable pub depth_at : ℕ → List Token → ℕ
depth_at depth [] = depth
depth_at depth (t ∷ ts) = if may_stand depth t.text then depth_at (open_behind depth t.text) ts else depth

-- the first token's text, where it stands in the option
unfoldable pub word_in : ℕ → List Token → Option (List ℕ)
word_in depth [] = None
word_in depth (t ∷ ts) = if may_stand depth t.text then Some t.text else None

-- the first word of an option that isn't read, and what is left behind it
unfoldable pub unread_at : Bool → List (List ℕ) → List Token → Option (Option (List ℕ) × List Token)
unread_at closed read ts = if begins (Only read ∷ []) ts || (closed && not (depth_at 0 ts == 0)) then None else Some (word_in 0 ts, rest_at 0 ts)

-- the tokens with which an option could go on
abbrev pub going_on : Bool → Class
going_on closed = But (if closed then codes "+" ∷ codes ";" ∷ [] else codes ";" ∷ [])

-- the tokens of an option that isn't read; its value is the first one's text
abbrev pub unread : Bool → List (List ℕ) → Form (Option (List ℕ))
unread closed read =
    record {
      spells = IsUnread closed read;
      reads = unread_at closed read;
      starts = But (codes "+" ∷ codes ";" ∷ read) ∷ [];
      goes_on = going_on closed ∷ [];
      may_be_empty = true;
      is_clear = are_apart (Only read) (Only (codes "+" ∷ codes ";" ∷ []));
    }

-- the members, and one behind them where there is one
abbrev pub and_last : {X : Type 0} → List X → Option X → List X
and_last xs None = xs
and_last xs (Some x) = xs ++ x ∷ []

-- options of which each is closed, but for the last: that one may stay open
abbrev pub options : {X : Type 0} → Form X → Form X → Form (List X)
options closed any =
    record {
      spells = λ xs ts. IsMade (λ p. and_last p.0 p.1) (λ p. (many closed & maybe any).spells p ts) xs;
      reads = many_at any.starts any.reads;
      starts = any.starts;
      goes_on = closed.goes_on ++ (any.goes_on ++ any.starts);
      may_be_empty = true;
      is_clear = (closed.is_clear && any.is_clear) && ((not closed.may_be_empty && not any.may_be_empty) && all_apart closed.goes_on any.starts);
    }

-- a value to which such options are put one after the other
abbrev pub with_options : {S X : Type 0} → Form S → (S → X → Option S) → Form X → Form X → Form S
with_options start put closed any =
    record {
      spells = λ x ts. IsMadeIf (λ p. put_all put p.0 p.1) (λ p. (start & options closed any).spells p ts) x;
      reads = λ ts. start.reads ts >>= λ s. gathered_at put any.starts any.reads s.0 s.1;
      starts = (start & options closed any).starts;
      goes_on = (start & options closed any).goes_on;
      may_be_empty = (start & options closed any).may_be_empty;
      is_clear = (start & options closed any).is_clear;
    }
