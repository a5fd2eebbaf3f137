-- Statements at places: what a text has where it has these statements somewhere.
use Rattle.std.proofs.Common.{◌≡◌, ℕ, zero, suc, ◌+◌, ◌≤◌, ◌<◌, List, [], ◌∷◌, ◌++◌, length, map, refl, sym, ap, ◌∙◌, arith}
use Rattle.std.specs.List.{flat_map, range_with_len}
use Rattle.std.specs.List.{AllByRecursion as Each}
use Rattle.base_types.specs.declared.span.Span.{Span}
use Rattle.verilog_syntax.specs.declared.statement.Connection.{Connection}
use Rattle.verilog_syntax.specs.declared.statement.Statement.{Statement}
use Rattle.verilog_syntax.specs.declared.statement.Statement.TheVariants.{Module, Declare, Assign, Instance}
use Rattle.verilog_syntax.specs.declared.reading.Placed.{Placed}
use Rattle.verilog_syntax.specs.Laws.{nowhere, bare_connection, bare_statement, bare}

-- the line of a statement, and the places of its expressions by their numbers
pub record Place : Type 0 where
  pub line : ℕ
  pub spans : ℕ → Span

-- connections at places
abbrev pub pins_at : (ℕ → Span) → List Connection → List Connection
pins_at f [] = []
pins_at f (c ∷ cs) = record { pin = c.pin; expression = record { items = c.expression.items; span = f 0 } } ∷ pins_at (λ k. f (suc k)) cs

-- a statement's expressions at places
abbrev pub put_in : (ℕ → Span) → Statement → Statement
put_in f (Module name ports) = Module name ports
put_in f (Declare kind range names) = Declare kind range names
put_in f (Assign left right) = Assign (record { items = left.items; span = f 0 }) (record { items = right.items; span = f 1 })
put_in f (Instance cell name connections) = Instance cell name (pins_at f connections)

-- a statement at a place
abbrev pub put_at : Place → Statement → Placed
put_at at s = record { statement = put_in at.spans s; line = at.line }

-- statements at places
abbrev pub put_all : (ℕ → Place) → List Statement → List Placed
put_all at [] = []
put_all at (s ∷ ss) = put_at (at 0) s ∷ put_all (λ k. at (suc k)) ss

-- where some stand
abbrev pin_spans : List Connection → ℕ → Span
pin_spans [] k = nowhere
pin_spans (c ∷ cs) zero = c.expression.span
pin_spans (c ∷ cs) (suc k) = pin_spans cs k

abbrev two_spans : Span → Span → ℕ → Span
two_spans a b zero = a
two_spans a b (suc k) = b

abbrev spans_of : Statement → ℕ → Span
spans_of (Module name ports) = λ k. nowhere
spans_of (Declare kind range names) = λ k. nowhere
spans_of (Assign left right) = two_spans left.span right.span
spans_of (Instance cell name connections) = pin_spans connections

abbrev pub places_of : List Placed → ℕ → Place
places_of [] k = record { line = 0; spans = λ k. nowhere }
places_of (p ∷ ps) zero = record { line = p.line; spans = spans_of p.statement }
places_of (p ∷ ps) (suc k) = places_of ps k

pins_back : (cs : List Connection) → pins_at (pin_spans cs) (map bare_connection cs) ≡ cs
pins_back [] = refl
pins_back (c ∷ cs) = ap (λ (l : List Connection). c ∷ l) (pins_back cs)

back : (s : Statement) → put_in (spans_of s) (bare_statement s) ≡ s
back (Module name ports) = refl
back (Declare kind range names) = refl
back (Assign left right) = refl
back (Instance cell name cs) = ap (Instance cell name) (pins_back cs)

all_back : (ps : List Placed) → put_all (places_of ps) (bare ps) ≡ ps
all_back [] = refl
all_back (p ∷ ps) =
    ap (λ (s : Statement). record { statement = s; line = p.line } ∷ put_all (places_of ps) (bare ps)) (back p.statement) ∙ ap (λ (l : List Placed). p ∷ l) (all_back ps)

-- statements that are these but for their places
pub stands : (ps : List Placed) (ss : List Statement) → bare ps ≡ ss → ps ≡ put_all (places_of ps) ss
stands ps ss e = sym (all_back ps) ∙ ap (put_all (places_of ps)) e

-- places that are the same
pub same_places : (f g : ℕ → Place) (ss : List Statement) → ((k : ℕ) → f k ≡ g k) → put_all f ss ≡ put_all g ss
same_places f g [] same = refl
same_places f g (s ∷ ss) same =
    ap (λ (p : Place). put_at p s ∷ put_all (λ k. f (suc k)) ss) (same 0) ∙ ap (λ (l : List Placed). put_at (g 0) s ∷ l) (same_places (λ k. f (suc k)) (λ k. g (suc k)) ss (λ k. same (suc k)))

-- the places behind some statements
abbrev pub behind : ℕ → (ℕ → Place) → ℕ → Place
behind m at k = at (m + k)

pub put_both : (at : ℕ → Place) (ss us : List Statement) → put_all at (ss ++ us) ≡ put_all at ss ++ put_all (behind (length ss) at) us
put_both at [] us = same_places at (behind 0 at) us (λ k. let e : k ≡ 0 + k = omega arith in ap at e)
put_both at (s ∷ ss) us =
    ap (λ (l : List Placed). put_at (at 0) s ∷ l)
    (put_both (λ k. at (suc k)) ss us ∙ ap (λ (l : List Placed). put_all (λ k. at (suc k)) ss ++ l) (same_places (λ k. at (suc (length ss + k))) (λ k. at (suc (length ss) + k)) us (λ k. let e : suc (length ss + k) ≡ suc (length ss) + k = omega arith in ap at e)))

-- what statements give, which doesn't hang on their places
module _ {X : Type 0} (f : Statement → List X) (same : (spans : ℕ → Span) (s : Statement) → f (put_in spans s) ≡ f s) where
  pub given : (at : ℕ → Place) (ss : List Statement) → flat_map (λ p. f p.statement) (put_all at ss) ≡ flat_map f ss
  given at [] = refl
  given at (s ∷ ss) = ap (λ (l : List X). l ++ flat_map (λ p. f p.statement) (put_all (λ k. at (suc k)) ss)) (same (at 0).spans s) ∙ ap (λ (l : List X). f s ++ l) (given (λ k. at (suc k)) ss)

-- what holds of statements at every place
abbrev pub Everywhere : (Placed → Type 0) → List Statement → Type 0
Everywhere P [] = Unit {0}
Everywhere P (s ∷ ss) = ((at : Place) → P (put_at at s)) × Everywhere P ss

module _ (P : Placed → Type 0) where
  pub each_put : (at : ℕ → Place) (ss : List Statement) → Everywhere P ss → Each P (put_all at ss)
  each_put at [] e = tt
  each_put at (s ∷ ss) e = (e.0 (at 0), each_put (λ k. at (suc k)) ss e.1)

  pub all_join : (ss us : List Statement) → Everywhere P ss → Everywhere P us → Everywhere P (ss ++ us)
  all_join [] us e f = f
  all_join (s ∷ ss) us e f = (e.0, all_join ss us e.1 f)

  pub all_range : (make : ℕ → Statement) (a m : ℕ) → ((i : ℕ) → a ≤ i → i < a + m → (at : Place) → P (put_at at (make i))) → Everywhere P (map make (range_with_len a m))
  all_range make a zero each = tt
  all_range make a (suc m) each = (each a (omega arith) (omega arith), all_range make (a + 1) m (λ i from to. each i (omega arith) (omega arith)))

-- statements that give nothing, wherever they stand
pub none_put : {X : Type 0} (f : Placed → List X) (at : ℕ → Place) (ss : List Statement) → Everywhere (λ p. f p ≡ []) ss → flat_map f (put_all at ss) ≡ []
none_put f at [] e = refl
none_put {X} f at (s ∷ ss) e = ap (λ (l : List X). l ++ flat_map f (put_all (λ k. at (suc k)) ss)) (e.0 (at 0)) ∙ none_put f (λ k. at (suc k)) ss e.1

-- statements that give one thing each, by their numbers
pub said_range : {X : Type 0} (f : Placed → List X) (make : ℕ → Statement) (gives : ℕ → X) (places : ℕ → Place) (a m : ℕ) → ((i : ℕ) → a ≤ i → i < a + m → f (put_at (places i) (make i)) ≡ gives i ∷ [])
    → (at : ℕ → Place) → ((k : ℕ) → at k ≡ places (a + k)) → flat_map f (put_all at (map make (range_with_len a m))) ≡ map gives (range_with_len a m)
said_range f make gives places a zero each at same = refl
said_range {X} f make gives places a (suc m) each at same =
    let e : a + 0 ≡ a = omega arith in
    let here : at 0 ≡ places a = same 0 ∙ ap places e in
    ap (λ (p : Place). f (put_at p (make a)) ++ flat_map f (put_all (λ k. at (suc k)) (map make (range_with_len (a + 1) m)))) here
    ∙ ap (λ (l : List X). l ++ flat_map f (put_all (λ k. at (suc k)) (map make (range_with_len (a + 1) m)))) (each a (omega arith) (omega arith))
    ∙ ap (λ (l : List X). gives a ∷ l)
    (said_range f make gives places (a + 1) m (λ i from to. each i (omega arith) (omega arith)) (λ k. at (suc k)) (λ k. let e : a + suc k ≡ a + 1 + k = omega arith in same (suc k) ∙ ap places e))
