-- The faults of a Verilog text: what the checks answer is the first of them, and where they pass there is none.
use Rattle.std.proofs.Common.{◌≡◌, ◌<◌, ◌⊎◌, inl, inr, ℕ, List, Some, Ok, Err, sym, ap, ◌∙◌, subst, arith}
use Rattle.std.specs.Prelude.{slice_get}
use Rattle.std.proofs.lemmas.Bool.{cases_order}
use Rattle.base_types.specs.declared.fault.Fault.{Fault}
use Rattle.base_types.specs.declared.fault.ReadFault.{ReadFault}
use Rattle.base_types.specs.declared.fault.ReadFault.TheVariants as faults
use Rattle.base_types.specs.declared.kind.Kind.{Kind}
use Rattle.base_types.specs.declared.kind.Kind.TheVariants.{VerilogNumber, VerilogTwice, BadSelect, SecondModule, VerilogSyntax}
use Rattle.base_types.specs.Faults.{number_of}
use Rattle.base_types.specs.FirstFault.{IsFirstFault, IfFault, Answers}
use Rattle.base_types.proofs.FirstFaults.{first_of}
use Rattle.verilog_syntax.specs.declared.reading.Placed.{Placed}
use Rattle.verilog_syntax.specs.Reading.{fault_at, read_statements}
use Rattle.verilog_syntax.specs.Module.{IsModule, IsFormFault, Open, Empty, NoHeader, NoStatement, Second, Behind}
use Rattle.verilog_syntax.proofs.Modules.{module_law, form_fault_law, one_form_fault, one_module}
use Rattle.verilog_checks.specs.Faults.{IsFirstBad, HasNoBad, IsBadNumber, IsTwice, IsBadSelect, IsFaultless, HoldsInVerilog, Form, Number, Twice, Select}
use Rattle.verilog_checks.specs.Checks.{check_number, check_twice, check_select, IsRefused}
use Rattle.verilog_checks.proofs.CheckLaw.{number_law, twice_law, select_law}

-- of two first statements that are bad alike each is the other
one_bad : (IsBad : List Placed → Placed → Type 0) (ps : List Placed) (i j : ℕ) (p q : Placed) → IsFirstBad IsBad ps i p → IsFirstBad IsBad ps j q → q ≡ p
one_bad IsBad ps i j p q a b =
    elim (cases_order i j) [
      | inl same ↦ let here : slice_get ps j ≡ Some p = subst (λ (k : ℕ). slice_get ps k ≡ Some p) same a.there in let both = sym b.there ∙ here in cc
      | inr (inl lt) ↦ absurd (b.first i p lt a.there a.bad)
      | inr (inr lt) ↦ absurd (a.first j q lt b.there b.bad)
    ]

-- VerilogSyntax and SecondModule are the least of the kinds

abbrev IsOfForm : Kind → Type 0
IsOfForm kind = (19 < number_of kind) × (number_of kind < 22)

syntax_is : IsOfForm VerilogSyntax
syntax_is = (omega arith, omega arith)

second_is : IsOfForm SecondModule
second_is = (omega arith, omega arith)

of_kind : (f g : Fault) → f ≡ g → IsOfForm g.kind → IsOfForm f.kind
of_kind f g is kind = subst (λ (x : Fault). IsOfForm x.kind) (sym is) kind

form_kind : (text : List ℕ) (f : Fault) → IsFormFault text f → IsOfForm f.kind
form_kind text f (Open none is) = of_kind f _ is syntax_is
form_kind text f (Empty behind c is) = of_kind f _ is syntax_is
form_kind text f (NoHeader body behind s ss c cut none is) = of_kind f _ is syntax_is
form_kind text f (NoStatement body behind s front ss ps c cut are none is) = of_kind f _ is syntax_is
form_kind text f (Second body behind t ps c are text_is is) = of_kind f _ is second_is
form_kind text f (Behind body behind t ps c are other is) = of_kind f _ is syntax_is

-- the kinds of a Verilog text are those from 20 to 24
pub late : (text : List ℕ) (f : Fault) → HoldsInVerilog text f → 19 < number_of f.kind
late text f (Form _ e) = (form_kind text f e).0
late text _ (Number ps i p are bad) = omega arith
late text _ (Twice ps i p are bad) = omega arith
late text _ (Select ps i p are bad) = omega arith

pub early : (text : List ℕ) (f : Fault) → HoldsInVerilog text f → number_of f.kind < 25
early text f (Form _ e) = let kind = (form_kind text f e).1 in omega arith
early text _ (Number ps i p are bad) = omega arith
early text _ (Twice ps i p are bad) = omega arith
early text _ (Select ps i p are bad) = omega arith

module _ (text : List ℕ) where
  abbrev First : Fault → Type 0
  First f = IsFirstFault (HoldsInVerilog text) f

  abbrev OrLater : Fault → Fault → Type 0
  OrLater f g = (g ≡ f) ⊎ (number_of f.kind < number_of g.kind)

  of_form : (f : Fault) → IsFormFault text f → (g : Fault) → HoldsInVerilog text g → OrLater f g
  of_form f e g (Form _ h) = inl (one_form_fault text g f h e)
  of_form f e _ (Number ps i p are bad) = absurd ((one_module text ps are).0 f e)
  of_form f e _ (Twice ps i p are bad) = absurd ((one_module text ps are).0 f e)
  of_form f e _ (Select ps i p are bad) = absurd ((one_module text ps are).0 f e)

  first_form : (f : Fault) → IsFormFault text f → First f
  first_form f e = first_of (HoldsInVerilog text) f (Form f e) (of_form f e)

  module _ (ps : List Placed) (are : IsModule text ps) where
    no_form : (g : Fault) → IsFormFault text g → ⊥
    no_form g e = (one_module text ps are).0 g e

    same : (qs : List Placed) → IsModule text qs → qs ≡ ps
    same qs other = (one_module text ps are).1 qs other

    number_here : (qs : List Placed) (j : ℕ) (q : Placed) → IsModule text qs → IsFirstBad IsBadNumber qs j q → IsFirstBad IsBadNumber ps j q
    number_here qs j q other bad = subst (λ (xs : List Placed). IsFirstBad IsBadNumber xs j q) (same qs other) bad

    twice_here : (qs : List Placed) (j : ℕ) (q : Placed) → IsModule text qs → IsFirstBad (IsTwice qs) qs j q → IsFirstBad (IsTwice ps) ps j q
    twice_here qs j q other bad = subst (λ (xs : List Placed). IsFirstBad (IsTwice xs) xs j q) (same qs other) bad

    select_here : (qs : List Placed) (j : ℕ) (q : Placed) → IsModule text qs → IsFirstBad (IsBadSelect qs) qs j q → IsFirstBad (IsBadSelect ps) ps j q
    select_here qs j q other bad = subst (λ (xs : List Placed). IsFirstBad (IsBadSelect xs) xs j q) (same qs other) bad

    of_number : (i : ℕ) (p : Placed) → IsFirstBad IsBadNumber ps i p → (g : Fault) → HoldsInVerilog text g → OrLater (fault_at VerilogNumber p.line) g
    of_number i p bad g (Form _ e) = absurd (no_form g e)
    of_number i p bad _ (Number qs j q other also) = inl (ap (λ (x : Placed). fault_at VerilogNumber x.line) (one_bad IsBadNumber ps i j p q bad (number_here qs j q other also)))
    of_number i p bad _ (Twice qs j q other also) = inr (omega arith)
    of_number i p bad _ (Select qs j q other also) = inr (omega arith)

    first_number : (f : Fault) → check_number ps ≡ Err f → First f
    first_number f e =
        let found = (number_law ps).refused f e in
        subst First (sym found.3) (first_of (HoldsInVerilog text) (fault_at VerilogNumber found.1.line) (Number ps found.0 found.1 are found.2) (of_number found.0 found.1 found.2))

    -- where no statement is bad none is the first
    passes : (IsBad : List Placed → Placed → Type 0) → HasNoBad IsBad ps → (j : ℕ) (q : Placed) → IsFirstBad IsBad ps j q → ⊥
    passes IsBad none j q w = none j q w.there w.bad

    module _ (number : HasNoBad IsBadNumber ps) where
      no_number : (qs : List Placed) (j : ℕ) (q : Placed) → IsModule text qs → IsFirstBad IsBadNumber qs j q → ⊥
      no_number qs j q other also = passes IsBadNumber number j q (number_here qs j q other also)

      of_twice : (i : ℕ) (p : Placed) → IsFirstBad (IsTwice ps) ps i p → (g : Fault) → HoldsInVerilog text g → OrLater (fault_at VerilogTwice p.line) g
      of_twice i p bad g (Form _ e) = absurd (no_form g e)
      of_twice i p bad _ (Number qs j q other also) = absurd (no_number qs j q other also)
      of_twice i p bad _ (Twice qs j q other also) = inl (ap (λ (x : Placed). fault_at VerilogTwice x.line) (one_bad (IsTwice ps) ps i j p q bad (twice_here qs j q other also)))
      of_twice i p bad _ (Select qs j q other also) = inr (omega arith)

      first_twice : (f : Fault) → check_twice ps ≡ Err f → First f
      first_twice f e =
          let found = (twice_law ps).refused f e in
          subst First (sym found.3) (first_of (HoldsInVerilog text) (fault_at VerilogTwice found.1.line) (Twice ps found.0 found.1 are found.2) (of_twice found.0 found.1 found.2))

      module _ (twice : HasNoBad (IsTwice ps) ps) where
        no_twice : (qs : List Placed) (j : ℕ) (q : Placed) → IsModule text qs → IsFirstBad (IsTwice qs) qs j q → ⊥
        no_twice qs j q other also = passes (IsTwice ps) twice j q (twice_here qs j q other also)

        of_select : (i : ℕ) (p : Placed) → IsFirstBad (IsBadSelect ps) ps i p → (g : Fault) → HoldsInVerilog text g → OrLater (fault_at BadSelect p.line) g
        of_select i p bad g (Form _ e) = absurd (no_form g e)
        of_select i p bad _ (Number qs j q other also) = absurd (no_number qs j q other also)
        of_select i p bad _ (Twice qs j q other also) = absurd (no_twice qs j q other also)
        of_select i p bad _ (Select qs j q other also) = inl (ap (λ (x : Placed). fault_at BadSelect x.line) (one_bad (IsBadSelect ps) ps i j p q bad (select_here qs j q other also)))

        first_select : (f : Fault) → check_select ps ≡ Err f → First f
        first_select f e =
            let found = (select_law ps).refused f e in
            subst First (sym found.3) (first_of (HoldsInVerilog text) (fault_at BadSelect found.1.line) (Select ps found.0 found.1 are found.2) (of_select found.0 found.1 found.2))

        -- statements of which none is bad have no fault
        none : HasNoBad (IsBadSelect ps) ps → (g : Fault) → HoldsInVerilog text g → ⊥
        none select g (Form _ e) = no_form g e
        none select _ (Number qs j q other also) = no_number qs j q other also
        none select _ (Twice qs j q other also) = no_twice qs j q other also
        none select _ (Select qs j q other also) = passes (IsBadSelect ps) select j q (select_here qs j q other also)

-- what each stage of a reader refuses is the first fault of the text

pub form_stage : (X : Type 0) (text : List ℕ) (e : ReadFault) → Answers {X = List Placed} (Err e) (read_statements text) → IfFault {X = X} (Err e) (IsFirstFault (HoldsInVerilog text))
form_stage X text (faults.Fault f) a = first_form text f ((form_fault_law text f).0 a)
form_stage X text faults.NoMemory a = tt

pub number_stage : (X : Type 0) (text : List ℕ) (ps : List Placed) → read_statements text ≡ Ok ps → (e : ReadFault) → Answers {X = Unit {0}} (Err e) (check_number ps) → IfFault {X = X} (Err e) (IsFirstFault (HoldsInVerilog text))
number_stage X text ps are (faults.Fault f) a = first_number text ps ((module_law text ps).0 are) f a
number_stage X text ps are faults.NoMemory a = tt

pub twice_stage : (X Y : Type 0) (text : List ℕ) (ps : List Placed) → read_statements text ≡ Ok ps → check_number ps ≡ Ok tt → (e : ReadFault) → IsRefused {X = Y} (Err e) (check_twice ps)
    → IfFault {X = X} (Err e) (IsFirstFault (HoldsInVerilog text))
twice_stage X Y text ps are number (faults.Fault f) a = first_twice text ps ((module_law text ps).0 are) ((number_law ps).passed number) f a
twice_stage X Y text ps are number faults.NoMemory a = tt

pub select_stage : (X : Type 0) (text : List ℕ) (ps : List Placed) → read_statements text ≡ Ok ps → check_number ps ≡ Ok tt → check_twice ps ≡ Ok tt → (e : ReadFault) → Answers {X = Unit {0}} (Err e) (check_select ps)
    → IfFault {X = X} (Err e) (IsFirstFault (HoldsInVerilog text))
select_stage X text ps are number twice (faults.Fault f) a = first_select text ps ((module_law text ps).0 are) ((number_law ps).passed number) ((twice_law ps).passed twice) f a
select_stage X text ps are number twice faults.NoMemory a = tt

-- a text without a fault
pub no_fault : (text : List ℕ) (ps : List Placed) → IsFaultless text ps → (g : Fault) → HoldsInVerilog text g → ⊥
no_fault text ps is g holds = none text ps is.form is.numbers is.once is.selects g holds
