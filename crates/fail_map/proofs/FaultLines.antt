-- Of two faults of one kind in the log the one at the earlier line comes before.
use Rattle.std.proofs.Common.{◌≡◌, ℕ, ◌<◌, Ordering, Less, Equal, Greater, refl}
use Rattle.std.specs.Ordering.{nat_cmp, ordering_then}
use Rattle.std.proofs.lemmas.Cmp.{ranked}
use Rattle.base_types.specs.Faults.{at_line}
use Rattle.base_types.specs.declared.fault.FileKind.TheVariants.{Log}
use Rattle.base_types.specs.declared.kind.Kind.TheVariants.{LogSyntax, LogPlace, LogTwice}
use Rattle.base_types.specs.FirstFault.{ComesBefore}

less : (o : Ordering) (a b : ℕ) → o ≡ nat_cmp a b → ordering_then o Equal ≡ Less → a < b
less Less a b e h = ranked a b Less e
less Equal a b e h = absurd cc
less Greater a b e h = absurd cc

pub syntax_before : (a b : ℕ) → ComesBefore (at_line LogSyntax Log a) (at_line LogSyntax Log b) → a < b
syntax_before a b h = less (nat_cmp a b) a b refl h

pub place_before : (a b : ℕ) → ComesBefore (at_line LogPlace Log a) (at_line LogPlace Log b) → a < b
place_before a b h = less (nat_cmp a b) a b refl h

pub twice_before : (a b : ℕ) → ComesBefore (at_line LogTwice Log a) (at_line LogTwice Log b) → a < b
twice_before a b h = less (nat_cmp a b) a b refl h
