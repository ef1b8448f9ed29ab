-- What is said about a command line that asks for no dump.
use Rattle.std.specs.Prelude.{◌++◌, codes}
use Rattle.charmlet_model.specs.Texts.{Text}
use Rattle.charmlet_dump.specs.declared.arguments.TheConstants.{HELP}
use Rattle.charmlet_dump.specs.Arguments.{Bad, Help, NoFolder, TwoFolders, NoNumber, BadNumber, UnknownOption, Repeated}

-- what is said on standard error, without a line feed
abbrev pub bad_text : Bad → Text
bad_text Help = HELP.now
bad_text NoFolder = codes "no folder is named; try --help"
bad_text (TwoFolders word) = codes "a second folder: " ++ word ++ codes "; try --help"
bad_text NoNumber = codes "--pes without a number; try --help"
bad_text (BadNumber word) = codes "not a number of processors: " ++ word ++ codes "; try --help"
bad_text (UnknownOption word) = codes "unknown option: " ++ word ++ codes "; try --help"
bad_text (Repeated word) = codes "option given twice: " ++ word ++ codes "; try --help"
