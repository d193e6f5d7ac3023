use Rattle.ots_draft.proofs.Leads.{is_draft, way_leads}
use Rattle.ots_draft.proofs.laws.drafts_wait.Goals as goal

pub returns-clause-draft : goal.returns-clause-draft
returns-clause-draft c = is_draft

pub returns-clause-message : goal.returns-clause-message
returns-clause-message c = way_leads
