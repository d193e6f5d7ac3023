use Rattle.ots_workers.specs.Returned.{NoneReturned}
use Rattle.ots_workers.proofs.serving.serve_links.Given as goal

abbrev pub ghosts-serve_shared : goal.ghosts-serve_shared
ghosts-serve_shared g a = record { book = a.shared.now; fresh = NoneReturned (g.A.Accepter.returned a.front.accepter) }
