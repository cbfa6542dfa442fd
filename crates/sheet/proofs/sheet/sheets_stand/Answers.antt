use Rattle.sheet.proofs.Sheets.{one_sheet}
use Rattle.sheet.proofs.sheet.sheets_stand.Goals as goal

pub returns : goal.returns
returns c = one_sheet
