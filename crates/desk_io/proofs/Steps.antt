-- Calls on one slot, one after another.
use Rattle.std.proofs.Common.{◌≡◌, ◌<◌, ℕ, Bool, List, [], ◌++◌, take, Option, Some, None, option_map, refl, sym, ◌∙◌, ap, subst, append-nil, append_assoc}
use Rattle.desk_io.specs.declared.slot.Slot.{Slot}
use Rattle.desk_io.specs.Desk.{SlotState, SameElsewhere, SameNames, with_unread, with_faults}
use Rattle.desk_io.specs.Causes.{HasRisen, HasFailed}
use Rattle.desk_io.specs.Prefixes.{HasRead, HasWritten, HasTaken, HasTakenAndFailed, HasPut, HasPutAndFailed}

appended_twice : (o : Option (List ℕ)) (x y : List ℕ) → option_map (λ w. w ++ y) (option_map (λ w. w ++ x) o) ≡ option_map (λ w. w ++ (x ++ y)) o
appended_twice None x y = refl
appended_twice (Some w) x y = ap Some (append_assoc w x y)

taken_twice : (o : Option (List ℕ)) (x y : List ℕ) → option_map (λ w. x ++ w) (option_map (λ w. y ++ w) o) ≡ option_map (λ w. (x ++ y) ++ w) o
taken_twice None x y = refl
taken_twice (Some w) x y = ap Some (sym (append_assoc x y w))

appended_none : (o : Option (List ℕ)) → o ≡ option_map (λ w. w ++ []) o
appended_none None = refl
appended_none (Some w) = ap Some (sym (append-nil w))

taken_none : (o : Option (List ℕ)) → o ≡ option_map (λ w. [] ++ w) o
taken_none None = refl
taken_none (Some w) = refl

pub elsewhere_same : (slot : Slot) (a : Slot → SlotState) → SameElsewhere slot a a
elsewhere_same slot a other ne = refl

pub elsewhere_then : (slot : Slot) (a b c : Slot → SlotState) → SameElsewhere slot a b → SameElsewhere slot b c → SameElsewhere slot a c
elsewhere_then slot a b c first second other ne = second other ne ∙ first other ne

pub names_then : (a b c : Slot → List ℕ → Bool) → SameNames a b → SameNames b c → SameNames a c
names_then a b c first second slot name = second slot name ∙ first slot name

pub put_none : (a : SlotState) → HasPut [] a a
put_none a = record { appended = appended_none a.written; faults = refl; unread = refl; stage = refl }

pub put_more : (front rest : List ℕ) (count : ℕ) (a b c : SlotState) → HasPut front a b → 0 < count → HasWritten count rest b c → HasPut (front ++ take count rest) a c
put_more front rest count a b c put some written = record {
  appended = written.appended ∙ ap (option_map (λ w. w ++ take count rest)) put.appended ∙ appended_twice a.written front (take count rest);
  faults = written.counted some ∙ put.faults;
  unread = written.unread ∙ put.unread;
  stage = written.stage ∙ put.stage;
}

pub put_nothing : (bytes front rest : List ℕ) (a b c : SlotState) → front ++ rest ≡ bytes → HasPut front a b → HasWritten 0 rest b c → HasPutAndFailed bytes a c
put_nothing bytes front rest a b c split put written = record {
  front = front;
  rest = rest;
  prefix = sym split;
  appended = written.appended ∙ sym (appended_none b.written) ∙ put.appended;
  risen = let P : ℕ → Type 0 = λ n. HasRisen n c.faults in subst P put.faults (written.nothing refl);
  unread = written.unread ∙ put.unread;
  stage = written.stage ∙ put.stage;
}

pub put_failed : (bytes front rest : List ℕ) (a b c : SlotState) → front ++ rest ≡ bytes → HasPut front a b → HasFailed b c → HasPutAndFailed bytes a c
put_failed bytes front rest a b c split put failed = record {
  front = front;
  rest = rest;
  prefix = sym split;
  appended = ap (λ (s : SlotState). s.written) failed.same ∙ put.appended;
  risen = let P : ℕ → Type 0 = λ n. HasRisen n c.faults in subst P put.faults failed.risen;
  unread = ap (λ (s : SlotState). s.unread) failed.same ∙ put.unread;
  stage = ap (λ (s : SlotState). s.stage) failed.same ∙ put.stage;
}

pub took_none : (a : SlotState) → HasTaken [] a a
took_none a = record { front = taken_none a.unread; same = refl }

pub took_more : (taken room : List ℕ) (count : ℕ) (a b c : SlotState) → HasTaken taken a b → HasRead count room b c → HasTaken (taken ++ take count room) a c
took_more taken room count a b c took read = record {
  front = took.front ∙ ap (option_map (λ w. taken ++ w)) read.front ∙ taken_twice c.unread taken (take count room);
  same = read.same ∙ ap (with_unread c.unread) took.same;
}

pub took_failed : (taken : List ℕ) (a b c : SlotState) → HasTaken taken a b → HasFailed b c → HasTakenAndFailed taken a c
took_failed taken a b c took failed = record {
  front = took.front ∙ ap (λ (s : SlotState). option_map (λ w. taken ++ w) s.unread) (sym failed.same);
  risen = let P : ℕ → Type 0 = λ n. HasRisen n c.faults in subst P (ap (λ (s : SlotState). s.faults) took.same) failed.risen;
  same = failed.same ∙ ap (with_faults c.faults) took.same ∙ ap (λ (u : Option (List ℕ)). with_faults c.faults (with_unread u a)) (sym (ap (λ (s : SlotState). s.unread) failed.same));
}
