use Rattle.ots_wanted.proofs.Drafts.{named}
use Rattle.ots_wanted.proofs.wanting.address_of.Goals as goal

pub unwrap-requires : goal.unwrap-requires
unwrap-requires c = named c.args.kind c.args.uri.now c.post_address.result c.in-Post.is c.requires c.post_address.ensures.none
