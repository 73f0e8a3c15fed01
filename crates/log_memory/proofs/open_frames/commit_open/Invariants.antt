use Rattle.publication.specs.Steps.{frame}
use Rattle.log_memory.specs.Drafts.{words_of}
use Rattle.log_memory.specs.Kinds.{no_reading}
use Rattle.log_memory.proofs.open_frames.commit_open.Given as goal

abbrev pub ghosts-commit_word : goal.ghosts-commit_word
ghosts-commit_word g a = record { site = a.memory.now.table.shared.key; number = 0; reading = no_reading; frame = frame a.draft.now.start 0 (words_of a.draft.now) }
