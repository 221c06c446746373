-- What a file is, before anything is done with it.
use Rattle.std.specs.Prelude.{ℕ, List}
use Rattle.rdx_sexp.specs.Size.{AreFileData}
use Rattle.rdx_cli.specs.Transcript.{AreData, IsUnread}
use Rattle.rdx_cli.specs.declared.contents.Contents.{Contents}
use Rattle.rdx_cli.specs.declared.contents.Contents.TheVariants.{Data, Unread}

-- the bytes are these data, whose size is that of a file, or they are none, and this is the line that says so
abbrev pub AreContents : List ℕ → Contents → Type 0
AreContents bytes (Data ds) = AreData bytes ds.items × AreFileData ds.items
AreContents bytes (Unread line) = IsUnread bytes line.items
