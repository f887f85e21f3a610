-- `bench::rows::records_in` meets its contract: each place is read as its record.
-- Assumes nothing.
use Rattle.bench.proofs.RowReads.{made_all}
use Rattle.peer.specs.Record.{free_of}
use Rattle.table.proofs.Octets.RowLaws.{length_records}
use Rattle.table.specs.Rows.{records_of}
use borrow.Author.Rules.{rules}
use Rattle.bench.proofs.rows.records_in.Goals as goal

pub returns : goal.returns
returns c = made_all _ (records_of c.args.table.now) free_of _ (λ i y q k. search rules) _ 32 (length_records 32 0 _) c.from_fn.ensures.items
