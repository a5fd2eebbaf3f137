-- Each form of Grammar is lawful, and a statement and the header are clear.
use Rattle.std.proofs.Common.{refl}
use Rattle.token_forms.specs.Laws.{IsLawful, IsStatement}
use Rattle.token_forms.proofs.Laws.{word-lawful, text-lawful, seq-lawful, made-lawful, made_if-lawful, before-lawful, behind-lawful, only-lawful, or-lawful, maybe-lawful, many-lawful, listed-lawful, at-lawful, between-lawful}
use Rattle.verilog_syntax.specs.Grammar.{select, operand, item, connection, connections, instance, assign, kind, range, declaration, statement, ports, header}

ruleset laws = (word-lawful, text-lawful, seq-lawful, made-lawful, made_if-lawful, before-lawful, behind-lawful, only-lawful, or-lawful, maybe-lawful, many-lawful, listed-lawful, at-lawful, between-lawful)

select-lawful : IsLawful select
unfolding select
select-lawful = search laws depth 12

operand-lawful : IsLawful operand
unfolding operand
operand-lawful = search (laws, select-lawful) depth 12

pub item-lawful : IsLawful item
unfolding item
item-lawful = search (laws, operand-lawful) depth 12

connection-lawful : IsLawful connection
unfolding connection
connection-lawful = search (laws, item-lawful) depth 12

connections-lawful : IsLawful connections
unfolding connections
connections-lawful = search (laws, connection-lawful) depth 12

instance-lawful : IsLawful instance
unfolding instance
instance-lawful = search (laws, connections-lawful) depth 12

assign-lawful : IsLawful assign
unfolding assign
assign-lawful = search (laws, item-lawful) depth 12

kind-lawful : IsLawful kind
unfolding kind
kind-lawful = search laws depth 12

range-lawful : IsLawful range
unfolding range
range-lawful = search laws depth 12

declaration-lawful : IsLawful declaration
unfolding declaration
declaration-lawful = search (laws, kind-lawful, range-lawful) depth 12

statement-lawful : IsLawful statement
unfolding statement
statement-lawful = search (laws, assign-lawful, declaration-lawful, instance-lawful) depth 12

ports-lawful : IsLawful ports
unfolding ports
ports-lawful = search laws depth 12

header-lawful : IsLawful header
unfolding header
header-lawful = search (laws, ports-lawful) depth 12

pub is_statement : IsStatement statement
unfolding statement assign declaration kind range instance connections connection item operand select
is_statement = record { lawful = statement-lawful; clear = refl; full = refl; closed = refl }

pub is_header_statement : IsStatement header
unfolding header ports
is_header_statement = record { lawful = header-lawful; clear = refl; full = refl; closed = refl }
