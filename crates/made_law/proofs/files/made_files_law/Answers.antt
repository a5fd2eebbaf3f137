use Rattle.made_law.proofs.files.Files.{files_right, head_files_right}
use Rattle.made_law.proofs.files.made_files_law.Goals as goal

pub returns : goal.returns
returns c = record { law = files_right; with_head = head_files_right }
