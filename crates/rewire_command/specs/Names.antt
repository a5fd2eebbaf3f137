-- Lists of names.
use Rattle.std.specs.Prelude.{ℕ, Bool, true, ◌&&◌, not, List, [], ◌∷◌, ◌++◌, map}
use Rattle.std.specs.Borrow.{Bor}
use Rattle.std.specs.List.{list_all}
use Rattle.rewire_command.specs.Faults.{has}

-- the names that are borrowed
abbrev pub now_of : List (Bor (List ℕ)) → List (List ℕ)
now_of names = map (λ (name : Bor (List ℕ)). name.now) names

-- each name of the second list is one of the first
abbrev pub have_all : List (List ℕ) → List (List ℕ) → Bool
have_all names others = list_all (has names) others

-- no name is one of those before it
abbrev pub are_new : List (List ℕ) → List (List ℕ) → Bool
are_new before [] = true
are_new before (name ∷ names) = not (has before name) && are_new (before ++ name ∷ []) names

-- no name stands twice
abbrev pub are_distinct : List (List ℕ) → Bool
are_distinct names = are_new [] names

-- the words are these names, each once
abbrev pub are_instances : List (List ℕ) → List (List ℕ) → Bool
are_instances words names = are_distinct words && (have_all names words && have_all words names)
