mod Identities
