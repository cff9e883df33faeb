-- What is said of a line by which the program refuses, in the order of docs/COMMANDS.md.
use Rattle.std.specs.Prelude.{codes}
use Rattle.sts_fields.specs.Text.{Text}
use Rattle.office_rules.specs.declared.decision.refusal.Refusal.TheVariants.{Store}
use Rattle.terminal_advice.specs.declared.advice.Advice.{Advice}
use Rattle.terminal_advice.specs.declared.advice.Advice.TheVariants.{Refused, WordFrom, Amount}
use Rattle.terminal_advice.specs.declared.advice.Advice.TheVariants.{Clock, Value, Place, File, Net}
use Rattle.terminal_advice.specs.declared.advice.Advice.TheVariants.{NotAnOffice, OpenStore}
use Rattle.terminal_advice.specs.declared.advice.Advice.TheVariants.{OpenMemory, DeskStopped}
use Rattle.terminal_advice.specs.declared.advice.Advice.TheVariants.{RowHeader, RowColumns}
use Rattle.terminal_advice.specs.declared.advice.Advice.TheVariants.{RowField, RowTooMany}
use Rattle.terminal_advice.specs.declared.advice.Advice.TheVariants.{RowDiffers, RowNoTariff}
use Rattle.terminal_advice.specs.declared.advice.Advice.TheVariants.{RowDayPast, WordTransform}
use Rattle.terminal_advice.specs.declared.advice.Advice.TheVariants.{WordAt, WordWait, WordDesk}
use Rattle.terminal_advice.specs.declared.advice.Advice.TheVariants.{WordListen, WordOperator}
use Rattle.terminal_advice.specs.declared.advice.Advice.TheVariants.{WordRef, WordMeter, WordBase}
use Rattle.terminal_advice.specs.declared.advice.Advice.TheVariants.{WordKey, WordTariff}
use Rattle.terminal_advice.specs.declared.advice.Advice.TheVariants.{WordTender, WordRows}
use Rattle.terminal_advice.specs.declared.advice.Advice.TheVariants.{WordPaper, WordNumber, WordAct}
use Rattle.terminal_advice.specs.declared.advice.Advice.TheVariants.{WordShown, WordListed}
use Rattle.terminal_advice.specs.declared.advice.Advice.TheVariants.{WordAfter, WordJson}
use Rattle.terminal_advice.specs.declared.advice.Advice.TheVariants.{LacksMeter, LacksOrder}
use Rattle.terminal_advice.specs.declared.advice.Advice.TheVariants.{WordSteps, WordPrior}
use Rattle.terminal_advice.specs.declared.advice.Advice.TheVariants.{WordAmount, WordSync}
use Rattle.terminal_advice.specs.declared.advice.Advice.TheVariants.{WordConnections, NoText}
use Rattle.terminal_advice.specs.declared.advice.Advice.TheVariants.{FileMissing, FileBarred}
use Rattle.terminal_advice.specs.declared.advice.Advice.TheVariants.{FileFolder, FileTooLong}
use Rattle.terminal_advice.specs.declared.advice.Advice.TheVariants.{NetTaken, NetNotHere}
use Rattle.terminal_advice.specs.declared.advice.Advice.TheVariants.{NetNobody, NetSilent}
use Rattle.terminal_advice.specs.declared.advice.Advice.TheVariants.{NetRubbish, ShutInUse}
use Rattle.terminal_advice.specs.declared.advice.Advice.TheVariants.{ShutByVend, ShutByOther}
use Rattle.terminal_advice.specs.declared.advice.Advice.TheVariants.{ShutTrigger, ShutVirtual}
use Rattle.terminal_advice.specs.declared.advice.Advice.TheVariants.{ShutIndex, ShutFull, StoreFull}
use Rattle.terminal_advice.specs.declared.advice.Advice.TheVariants.{ShutBarred, ShutNoFolder}
use Rattle.terminal_advice.specs.declared.advice.Advice.TheVariants.{ShutSpecial, ShutFolder}
use Rattle.terminal_advice.specs.declared.advice.Advice.TheVariants.{ShutNoDatabase, ShutLinked}
use Rattle.terminal_advice.specs.declared.advice.Advice.TheVariants.{ShutJournal, ShutVacuum}
use Rattle.terminal_advice.specs.declared.advice.Advice.TheVariants.{ColumnMeter, ColumnBase}
use Rattle.terminal_advice.specs.declared.advice.Advice.TheVariants.{ColumnTariff, ColumnKey}
use Rattle.terminal_advice.specs.declared.advice.Advice.TheVariants.{ColumnName, ColumnSteps}
use Rattle.terminal_advice.specs.declared.advice.Advice.TheVariants.{ColumnFrom}
use Rattle.terminal_advice.specs.Refused.{refusal_reason, refusal_remedy}

-- why it was refused
abbrev pub reason_of : Advice → Text
reason_of (Refused refusal) = refusal_reason refusal
reason_of Amount =
    codes "No token carries this amount, or it is 0."
reason_of Clock =
    codes "The clock of the office's computer is outside the years 1993 to 2099."
reason_of Value =
    codes "A value is outside its rule."
reason_of Place =
    codes "The command needs one office: a file, or a running desk."
reason_of File =
    codes "The file cannot be read."
reason_of Net =
    codes "The connection failed, or no whole answer came."
reason_of NotAnOffice =
    codes "Another program or a newer vend made the file, or its tables were changed from outside."
reason_of OpenStore =
    codes "The file is no database, is in use, cannot be read or written, or was changed from outside."
reason_of OpenMemory =
    codes "The office's computer is out of memory. Nothing was done."
reason_of DeskStopped =
    codes "The office's disk failed or is full, or a row is damaged, so the desk stopped."
reason_of RowHeader =
    codes "The first line has to be the names of the columns."
reason_of RowColumns =
    codes "The row has too many fields or too few."
reason_of RowField =
    codes "A field of the row is outside its rule."
reason_of RowTooMany =
    codes "A file has at most 10000 rows."
reason_of RowDiffers =
    codes "Something else is stored under the row's name, number or day."
reason_of RowNoTariff =
    codes "There is no tariff of the name in the row."
reason_of RowDayPast =
    codes "The day of the row has begun (UTC)."
reason_of WordTransform =
    codes "--transform has to be plain or demo."
reason_of WordAt =
    codes "--at has to be Unix seconds from 725846400 to 4102444799 (1993 to 2099)."
reason_of WordWait =
    codes "--wait has to be a number from 0 to 3600."
reason_of WordDesk =
    codes "--desk has to be four numbers and a port, as 127.0.0.1:8080."
reason_of WordListen =
    codes "--listen has to be four numbers and a port, as 127.0.0.1:8080."
reason_of WordOperator =
    codes "--operator has to be 1 to 16 ASCII letters or digits."
reason_of WordRef =
    codes "--ref has to be 1 to 32 ASCII letters, digits or hyphens."
reason_of WordMeter =
    codes "--meter has to be eleven digits, of which the last is the check digit."
reason_of WordBase =
    codes "--base has to be 1993, 2014 or 2035."
reason_of WordKey =
    codes "--key has to be sixteen lower-case hexadecimal digits."
reason_of WordTariff =
    codes "--tariff has to be 1 to 32 ASCII letters, digits or hyphens."
reason_of WordFrom =
    codes "--from has to be a day as 2026-07-01."
reason_of WordTender =
    codes "The tender has to be whole cents from 1 to 100000000."
reason_of WordRows =
    codes "The rows of a file have to be tariffs or meters."
reason_of WordPaper =
    codes "--kind has to be shift, receipt, totals or sales."
reason_of WordNumber =
    codes "--number has to be a number from 1 to 1000000000."
reason_of WordAct =
    codes "A shift can be opened or closed."
reason_of WordShown =
    codes "Only a meter, a sale and a last receipt can be shown."
reason_of WordListed =
    codes "Only tariffs, meters, shifts and sales can be listed."
reason_of WordAfter =
    codes "--after has to be a whole key: a name, a meter's number, or 0 to 1000000000."
reason_of WordJson =
    codes "A receipt is no JSON."
reason_of LacksMeter =
    codes "Here --meter is needed."
reason_of LacksOrder =
    codes "A sale is shown by --operator and --ref."
reason_of WordSteps =
    codes "The steps have to be as 500:10;:15, one to eight, with the last open."
reason_of WordPrior =
    codes "The tenths of a kWh bought before have to be from 0 to 100000000000000000."
reason_of WordAmount =
    codes "Each amount has to be tenths of a kWh, a number below 4294967296."
reason_of WordSync =
    codes "--sync has to be twice or full."
reason_of WordConnections =
    codes "--connections has to be a number from 1 to 1000000."
reason_of NoText =
    codes "An argument is not UTF-8 text."
reason_of FileMissing =
    codes "The file does not exist."
reason_of FileBarred =
    codes "You have no right to read the file."
reason_of FileFolder =
    codes "It is a folder."
reason_of FileTooLong =
    codes "With --desk a file has at most 1048576 bytes."
reason_of NetTaken =
    codes "Another program listens at this address."
reason_of NetNotHere =
    codes "The desk cannot listen at this address."
reason_of NetNobody =
    codes "Nobody listens at this address."
reason_of NetSilent =
    codes "No whole answer came in time. The request may have been done."
reason_of NetRubbish =
    codes "The answer broke off, or is none of a desk's. The request may have been done."
reason_of ShutInUse =
    codes "Another program has the file: a desk, a command or sqlite3."
reason_of ShutByVend =
    codes "Another vend has the file: a desk, or a command that has not ended."
reason_of ShutByOther =
    codes "Another program has the file, such as sqlite3 or a backup."
reason_of ShutBarred =
    codes "You have no right to read and write the file and its folder."
reason_of ShutNoFolder =
    codes "The folder of the file does not exist, or you have no right to write there."
reason_of ShutSpecial =
    codes "SQLite reads :memory:, and names that begin with file:, in its own way."
reason_of ShutFolder =
    codes "It is a folder."
reason_of ShutNoDatabase =
    codes "The file is no database."
reason_of ShutLinked =
    codes "The file has a second hard link."
reason_of ShutJournal =
    codes "A journal is beside the file: another program writes to it, or was killed."
reason_of ShutVacuum =
    codes "The file has auto_vacuum."
reason_of ShutTrigger =
    codes "The file has a trigger on a table of the office."
reason_of ShutVirtual =
    codes "The file has a virtual table, as of FTS or R-tree."
reason_of ShutIndex =
    codes "The file has an index with WHERE on a table of the office."
reason_of ShutFull =
    codes "The disk is full."
reason_of StoreFull =
    codes "The office's disk is full."
reason_of ColumnMeter =
    codes "The column meter has to be eleven digits, the last the check digit."
reason_of ColumnBase =
    codes "The column base has to be 1993, 2014 or 2035."
reason_of ColumnTariff =
    codes "The column tariff has to be 1 to 32 ASCII letters, digits or hyphens."
reason_of ColumnKey =
    codes "The column key has to be sixteen lower-case hexadecimal digits."
reason_of ColumnName =
    codes "The column name has to be 1 to 32 ASCII letters, digits or hyphens."
reason_of ColumnSteps =
    codes "The column steps has to be as 500:10;:15, one to eight, with the last open."
reason_of ColumnFrom =
    codes "The column from has to be a day as 2026-07-01, or empty."

-- what to do about it
abbrev pub remedy_of : Advice → Text
remedy_of (Refused refusal) = refusal_remedy refusal
remedy_of Amount =
    codes "Choose another."
remedy_of Clock =
    codes "Set it right. With --file you can give --at instead."
remedy_of Value =
    codes "The command's --help has the rules."
remedy_of Place =
    codes "Give --file, or --desk without --wait, --at and --transform."
remedy_of File =
    codes "Correct its name or its rights."
remedy_of Net =
    codes "Give the same command again, with the same --ref."
remedy_of NotAnOffice =
    codes "Name another file, or undo the change."
remedy_of OpenStore =
    codes "Correct the name or the rights, undo the change, or try again."
remedy_of OpenMemory =
    codes "Try again later."
remedy_of DeskStopped =
    codes "Make room, or audit the file. The next connection, or the next start, opens the file again."
remedy_of RowHeader =
    codes "Correct it, and send the file again."
remedy_of RowColumns =
    codes "Correct it, and send the file again."
remedy_of RowField =
    codes "Correct it, and send the file again."
remedy_of RowTooMany =
    codes "Divide it, and send each part."
remedy_of RowDiffers =
    codes "Correct it, and send the file again."
remedy_of RowNoTariff =
    codes "Import the tariffs first, or correct it, and send the file again."
remedy_of RowDayPast =
    codes "Correct it, and send the file again."
remedy_of WordTransform =
    codes "Correct this value."
remedy_of WordAt =
    codes "Correct this value."
remedy_of WordWait =
    codes "Correct this value."
remedy_of WordDesk =
    codes "Correct this value."
remedy_of WordListen =
    codes "Correct this value."
remedy_of WordOperator =
    codes "Correct this value."
remedy_of WordRef =
    codes "Correct this value."
remedy_of WordMeter =
    codes "Correct this value."
remedy_of WordBase =
    codes "Correct this value."
remedy_of WordKey =
    codes "Correct this value."
remedy_of WordTariff =
    codes "Correct this value."
remedy_of WordFrom =
    codes "Correct this value."
remedy_of WordTender =
    codes "Correct this value."
remedy_of WordRows =
    codes "Give one of these words before the file."
remedy_of WordPaper =
    codes "Correct this value."
remedy_of WordNumber =
    codes "Correct this value."
remedy_of WordAct =
    codes "Give open or close."
remedy_of WordShown =
    codes "Give meter, sale or last."
remedy_of WordListed =
    codes "Give one of these words."
remedy_of WordAfter =
    codes "Correct this value."
remedy_of WordJson =
    codes "Leave out --json."
remedy_of LacksMeter =
    codes "Add it, with the meter's number."
remedy_of LacksOrder =
    codes "Give both."
remedy_of WordSteps =
    codes "Correct this value."
remedy_of WordPrior =
    codes "Correct this value."
remedy_of WordAmount =
    codes "Correct this value."
remedy_of WordSync =
    codes "Correct this value."
remedy_of WordConnections =
    codes "Correct this value."
remedy_of NoText =
    codes "Correct it."
remedy_of FileMissing =
    codes "Correct its name."
remedy_of FileBarred =
    codes "Give it to your user, or ask another to do this."
remedy_of FileFolder =
    codes "Name a file."
remedy_of FileTooLong =
    codes "Divide it, and send each part."
remedy_of NetTaken =
    codes "End it, or take another port."
remedy_of NetNotHere =
    codes "Take an address of this computer, and a port that you may use."
remedy_of NetNobody =
    codes "Start the desk, or correct the address. Give the same command again, with the same --ref."
remedy_of NetSilent =
    codes "Give the same command again, with the same --ref."
remedy_of NetRubbish =
    codes "Correct the address, if no desk is there. Give the same command again, with the same --ref."
remedy_of ShutInUse =
    codes "Ask a desk by --desk. End another program, or give a longer --wait."
remedy_of ShutByVend =
    codes "Ask the desk by --desk, or give a longer --wait."
remedy_of ShutByOther =
    codes "End it, or give a longer --wait."
remedy_of ShutBarred =
    codes "Use a user who has both."
remedy_of ShutNoFolder =
    codes "Correct the name, or make the folder, or use a user who has the right."
remedy_of ShutSpecial =
    codes "Put ./ in front."
remedy_of ShutFolder =
    codes "Name a file."
remedy_of ShutNoDatabase =
    codes "Correct its name."
remedy_of ShutLinked =
    codes "Remove the link."
remedy_of ShutJournal =
    codes "End that program. If the journal stays, let sqlite3 read the file: SELECT count(*) FROM sales;"
remedy_of ShutVacuum =
    codes "Undo it in sqlite3: PRAGMA auto_vacuum=0; VACUUM;"
remedy_of ShutTrigger =
    codes "Undo it in sqlite3: DROP TRIGGER name;"
remedy_of ShutVirtual =
    codes "Undo it in sqlite3: DROP TABLE name;"
remedy_of ShutIndex =
    codes "Undo it in sqlite3: DROP INDEX name;"
remedy_of ShutFull =
    codes "Make room, and try again."
remedy_of StoreFull =
    codes "Make room, and try the same again."
remedy_of ColumnMeter =
    codes "Correct it, and send the file again."
remedy_of ColumnBase =
    codes "Correct it, and send the file again."
remedy_of ColumnTariff =
    codes "Correct it, and send the file again."
remedy_of ColumnKey =
    codes "Correct it, and send the file again."
remedy_of ColumnName =
    codes "Correct it, and send the file again."
remedy_of ColumnSteps =
    codes "Correct it, and send the file again."
remedy_of ColumnFrom =
    codes "Correct it, and send the file again."

-- the advice of which this one is a closer form: it is for the same lines
unfoldable pub general_of : Advice → Advice
general_of WordTransform = Value
general_of WordAt = Value
general_of WordWait = Value
general_of WordDesk = Value
general_of WordListen = Value
general_of WordOperator = Value
general_of WordRef = Value
general_of WordMeter = Value
general_of WordBase = Value
general_of WordKey = Value
general_of WordTariff = Value
general_of WordFrom = Value
general_of WordTender = Value
general_of WordRows = Value
general_of WordPaper = Value
general_of WordNumber = Value
general_of WordAct = Value
general_of WordShown = Value
general_of WordListed = Value
general_of WordAfter = Value
general_of WordJson = Value
general_of LacksMeter = Value
general_of LacksOrder = Value
general_of WordSteps = Value
general_of WordPrior = Value
general_of WordAmount = Value
general_of WordSync = Value
general_of WordConnections = Value
general_of NoText = Value
general_of FileMissing = File
general_of FileBarred = File
general_of FileFolder = File
general_of FileTooLong = File
general_of NetTaken = Net
general_of NetNotHere = Net
general_of NetNobody = Net
general_of NetSilent = Net
general_of NetRubbish = Net
general_of ShutInUse = OpenStore
general_of ShutByVend = OpenStore
general_of ShutByOther = OpenStore
general_of ShutBarred = OpenStore
general_of ShutNoFolder = OpenStore
general_of ShutSpecial = OpenStore
general_of ShutFolder = OpenStore
general_of ShutNoDatabase = OpenStore
general_of ShutLinked = OpenStore
general_of ShutJournal = OpenStore
general_of ShutVacuum = OpenStore
general_of ShutTrigger = OpenStore
general_of ShutVirtual = OpenStore
general_of ShutIndex = OpenStore
general_of ShutFull = OpenStore
general_of StoreFull = Refused Store
general_of ColumnMeter = RowField
general_of ColumnBase = RowField
general_of ColumnTariff = RowField
general_of ColumnKey = RowField
general_of ColumnName = RowField
general_of ColumnSteps = RowField
general_of ColumnFrom = RowField
general_of advice = advice
