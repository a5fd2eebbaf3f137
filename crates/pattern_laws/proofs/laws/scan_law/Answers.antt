use Rattle.pattern_laws.proofs.Blocks.{block_law}
use Rattle.pattern_laws.proofs.Headings.{heading_law}
use Rattle.pattern_laws.proofs.Scans.{scan_law}
use Rattle.pattern_laws.proofs.Still.{still_law}
use Rattle.pattern_laws.proofs.laws.scan_law.Goals as goal

pub returns : goal.returns
returns c = record { block = block_law; heading = heading_law; law = scan_law; still = still_law }
